-- The leading ports that two lists share.
use Rattle.std.proofs.Common.{◌≡◌, ℕ, ◌+◌, Bool, cond, eqb, List, [], ◌∷◌, refl, ap}
use Rattle.std.specs.List.{prefix_len, zip}
use Rattle.lists.specs.Lists.{shared}

-- whether the two ports of a pair are equal
abbrev pub both_equal : ℕ × ℕ → Bool
both_equal p = eqb p.0 p.1

-- the leading equal pairs of the two lists, taken side by side
pub shared_zip : (a b : List ℕ) → prefix_len both_equal (zip a b) ≡ shared a b
shared_zip [] b = refl
shared_zip (x ∷ a) [] = refl
shared_zip (x ∷ a) (y ∷ b) = ap (λ n. cond (eqb x y) (1 + n) 0) (shared_zip a b)
