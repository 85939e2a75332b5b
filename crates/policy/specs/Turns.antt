-- What it means that a rule goes round the ports of a mask and passes over none.
use Rattle.std.specs.Prelude.{◌≡◌, ℕ, Bool, true, false, cond, ◌||◌, List, [], ◌∷◌, ◌==◌, ◌≢◌}
use Rattle.std.specs.List.{AllByRecursion}
use Rattle.policy.specs.Masks.{has}
use Rattle.policy.specs.Picks.{picks_at}
use Rattle.policy.specs.declared.offer.Offer.{Offer}

-- whether the port is among the picks
unfoldable pub among : ℕ → List ℕ → Bool
among port [] = false
among port (p ∷ ps) = p == port || among port ps

-- the picks in front of the first pick of the port
unfoldable pub before : ℕ → List ℕ → List ℕ
before port [] = []
before port (p ∷ ps) = cond (p == port) [] (p ∷ before port ps)

-- every offer at the board permits this mask; offers at other boards may permit any
abbrev pub Unchanged : ℕ → ℕ → List Offer → Type 0
Unchanged board mask offers = AllByRecursion (λ o. o.board ≡ board → o.permitted ≡ mask) offers

-- Of a state just after the port was picked at the board: whatever offers follow, at whatever boards,
-- as long as the mask at this board stays, if the port is picked there again, then every other port
-- of the mask is picked there first.
pub record Fair {S : Type 0} (rule : S → Offer → ℕ × S) (board mask port : ℕ) (s : S) : Type 0 where
  pub others : (later : List Offer) → Unchanged board mask later
      → among port (picks_at rule board s later) ≡ true
      → (other : ℕ) → has mask other ≡ true → (other ≢ port)
      → among other (before port (picks_at rule board s later)) ≡ true
