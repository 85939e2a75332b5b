-- Going round the ports of one mask.
use Rattle.std.proofs.Common.{◌≡◌, ℕ, zero, suc, ◌<◌, Bool, true, false, not, ◌&&◌, ◌||◌, eqb, List, [], ◌∷◌, refl, ap, ⊎_elim}
use Rattle.std.proofs.lemmas.Bool.{and_parts, both_ways, cases_Bool, eqb-true, or_cases}
use Rattle.policy.specs.Masks.{above, first_of, has, lowest}
use Rattle.policy.specs.Rules.{next}
use Rattle.policy.specs.Turns.{among, before}
use Rattle.policy.specs.Below.{all_below, all_masks, at_mask, below}
use Rattle.policy.specs.Bits.{has_below}

-- the next n picks after the last, while the mask stays
unfoldable pub turns : ℕ → ℕ → ℕ → List ℕ
turns mask last zero = []
turns mask last (suc n) = let port = next mask last in port ∷ turns mask port n

-- within eight picks the port comes again, and each other port of the mask before it
goes_round : ℕ → ℕ → Bool
goes_round mask port =
    let picks = turns mask port 8 in
    let first = before port picks in
    among port picks && all_below 8 (λ other. not (has mask other) || (eqb other port || among other first))

tested : all_masks (λ m. all_below 8 (λ port. not (has m port) || goes_round m port)) ≡ true
unfolding above has first_of lowest among before turns goes_round
tested = refl

implied : (x y : Bool) → x ≡ true → (not x || y) ≡ true → y ≡ true
implied x y h t = rw h at t

-- what the test says of one mask and port
module _ (mask port : ℕ) (small : mask < 256) (some : 0 < mask) (h : has mask port ≡ true) where
  round : goes_round mask port ≡ true
  round =
      let all = at_mask (λ m. all_below 8 (λ port. not (has m port) || goes_round m port)) tested mask small some in
      implied (has mask port) (goes_round mask port) h
      (below 8 (λ port. not (has mask port) || goes_round mask port) all port (has_below mask port small h))

  pub comes_again : among port (turns mask port 8) ≡ true
  unfolding goes_round
  comes_again = (and_parts _ _ round).0

  pub others_first : (other : ℕ) → has mask other ≡ true → (other ≡ port → ⊥)
      → among other (before port (turns mask port 8)) ≡ true
  unfolding goes_round
  others_first other has_other differs =
      let first = before port (turns mask port 8) in
      let told =
      implied (has mask other) (eqb other port || among other first) has_other
      (below 8 (λ other. not (has mask other) || (eqb other port || among other first)) (and_parts _ _ round).1 other
      (has_below mask other small has_other)) in
      ⊎_elim (λ e. absurd (differs (eqb-true other port e))) (λ a. a) (or_cases (eqb other port) (among other first) told)

-- where a port comes at all, what is in front of it does not depend on how far the picks go
pub before_same : (mask port last n m : ℕ) → among port (turns mask last n) ≡ true → among port (turns mask last m) ≡ true
    → before port (turns mask last n) ≡ before port (turns mask last m)
unfolding among before turns
before_same mask port last zero m a b = absurd (both_ways false refl a)
before_same mask port last (suc n) zero a b = absurd (both_ways false refl b)
before_same mask port last (suc n) (suc m) a b =
    let p = next mask last in
    ⊎_elim
    (λ e. rw e)
    (λ e. let a' : among port (turns mask p n) ≡ true = rw e at a in
    let b' : among port (turns mask p m) ≡ true = rw e at b in
    rw e (ap (λ ps. p ∷ ps) (before_same mask port p n m a' b')))
    (cases_Bool (eqb p port))
