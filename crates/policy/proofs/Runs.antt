-- The picks for a list of offers, one offer more at a time.
use Rattle.std.proofs.Common.{◌≡◌, ℕ, suc, ◌+◌, ◌<◌, List, [], ◌∷◌, ◌++◌, length, get_or, take, drop, set, sym, refl, ap, ◌∙◌, append_assoc, arith}
use Rattle.std.proofs.lemmas.List.{drop_more, length-take-le, set_at, take_more}
use Rattle.policy.specs.Picks.{picks_of, state_after}
use Rattle.policy.specs.declared.offer.Offer.{Offer}

module _ {S : Type 0} (rule : S → Offer → ℕ × S) where
  -- one offer more at the end
  pub picks_push : (s : S) (os : List Offer) (o : Offer)
      → picks_of rule s (os ++ o ∷ []) ≡ picks_of rule s os ++ (rule (state_after rule s os) o).0 ∷ []
  unfolding picks_of state_after
  picks_push s [] o = refl
  picks_push s (p ∷ os) o = ap (λ ps. (rule s p).0 ∷ ps) (picks_push (rule s p).1 os o)

  pub after_push : (s : S) (os : List Offer) (o : Offer)
      → state_after rule s (os ++ o ∷ []) ≡ (rule (state_after rule s os) o).1
  unfolding state_after
  after_push s [] o = refl
  after_push s (p ∷ os) o = after_push (rule s p).1 os o

  pub length_picks : (s : S) (os : List Offer) → length (picks_of rule s os) ≡ length os
  unfolding picks_of
  length_picks s [] = refl
  length_picks s (o ∷ os) = ap suc (length_picks (rule s o).1 os)

  -- no offer was shown yet
  pub shown_none : (s : S) (memory : List ℕ) → (memory ≡ picks_of rule s [] ++ memory) × (s ≡ state_after rule s [])
  unfolding picks_of state_after
  shown_none s memory = (refl, refl)

  -- the next offer is shown, and its pick written behind those before it
  module _ (s : S) (offers : List Offer) (memory : List ℕ) (i : ℕ) (d : Offer) (h : i < length offers) (l : i < length memory) where
    abbrev shown : List Offer
    shown = take i offers

    abbrev picked : ℕ × S
    picked = rule (state_after rule s shown) (get_or offers i d)

    more : take (i + 1) offers ≡ shown ++ get_or offers i d ∷ []
    more = take_more offers i d h

    after_more : picked.1 ≡ state_after rule s (take (i + 1) offers)
    after_more = sym (ap (state_after rule s) more ∙ after_push s shown (get_or offers i d))

    written_more : set (picks_of rule s shown ++ drop i memory) i picked.0
        ≡ picks_of rule s (take (i + 1) offers) ++ drop (i + 1) memory
    written_more =
        let before = picks_of rule s shown in
        let rest = drop (i + 1) memory in
        let long : length before ≡ i = length_picks s shown ∙ length-take-le i offers (omega arith) in
        let picks : picks_of rule s (take (i + 1) offers) ≡ before ++ picked.0 ∷ [] =
        ap (picks_of rule s) more ∙ picks_push s shown (get_or offers i d) in
        ap (λ r. set (before ++ r) i picked.0) (drop_more memory i 0 l)
        ∙ set_at before (get_or memory i 0) rest picked.0 i long
        ∙ sym (ap (λ ps. ps ++ rest) picks ∙ append_assoc before (picked.0 ∷ []) rest)

    pub shown_more : (written : List ℕ) (t : S) (pick : ℕ) (u : S)
        → (written ≡ picks_of rule s (take i offers) ++ drop i memory) × (t ≡ state_after rule s (take i offers))
        → (pick, u) ≡ rule t (get_or offers i d)
        → (set written i pick ≡ picks_of rule s (take (i + 1) offers) ++ drop (i + 1) memory)
        × (u ≡ state_after rule s (take (i + 1) offers))
    shown_more written t pick u before is =
        let now : (pick, u) ≡ picked = is ∙ ap (λ t. rule t (get_or offers i d)) before.1 in (
          ap (λ w. set w i pick) before.0 ∙ ap (λ p. set (picks_of rule s shown ++ drop i memory) i p.0) now ∙ written_more,
          ap (λ p. p.1) now ∙ after_more,
        )
