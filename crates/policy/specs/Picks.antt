-- What a rule picks for one offer after another, whatever its states are.
use Rattle.std.specs.Prelude.{ℕ, cond, List, [], ◌∷◌, ◌==◌}
use Rattle.policy.specs.declared.offer.Offer.{Offer}

module _ {S : Type 0} (rule : S → Offer → ℕ × S) where
  -- the picks from a state on
  unfoldable pub picks_of : S → List Offer → List ℕ
  picks_of s [] = []
  picks_of s (o ∷ os) = (rule s o).0 ∷ picks_of (rule s o).1 os

  -- the state that they lead to
  unfoldable pub state_after : S → List Offer → S
  state_after s [] = s
  state_after s (o ∷ os) = state_after (rule s o).1 os

  -- those of the picks that are made at one board
  unfoldable pub picks_at : ℕ → S → List Offer → List ℕ
  picks_at board s [] = []
  picks_at board s (o ∷ os) =
      let later = picks_at board (rule s o).1 os in cond (o.board == board) ((rule s o).0 ∷ later) later
