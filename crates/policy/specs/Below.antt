-- Tests of every number below a bound, and of every mask but 0.
use Rattle.std.specs.Prelude.{◌≡◌, ℕ, zero, suc, ◌+◌, ◌-◌, ◌<◌, Bool, true, ◌&&◌}
use Rattle.std.proofs.Common.{arith, inl, inr}
use Rattle.std.proofs.lemmas.Bool.{and_parts, cases_eq}

abbrev pub all_below : ℕ → (ℕ → Bool) → Bool
all_below zero test = true
all_below (suc n) test = test n && all_below n test

pub below : (n : ℕ) (test : ℕ → Bool) → all_below n test ≡ true → (k : ℕ) → k < n → test k ≡ true
below zero test all k h = absurd (omega arith)
below (suc n) test all k h =
    let parts = and_parts (test n) (all_below n test) all in
    elim (cases_eq k n) [ inl e ↦ rw e parts.0 | inr e ↦ below n test parts.1 k (omega arith) ]

-- the masks 1 to 255
abbrev pub all_masks : (ℕ → Bool) → Bool
all_masks test = all_below 255 (λ n. test (n + 1))

pub at_mask : (test : ℕ → Bool) → all_masks test ≡ true → (mask : ℕ) → mask < 256 → 0 < mask → test mask ≡ true
at_mask test all mask small some =
    let e : mask - 1 + 1 ≡ mask = omega arith in rw e at (below 255 (λ n. test (n + 1)) all (mask - 1) (omega arith))
