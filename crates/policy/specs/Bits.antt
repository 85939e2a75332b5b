-- The ports of a mask as its bits.
use Rattle.std.specs.Prelude.{◌≡◌, ℕ, ◌+◌, ◌-◌, ◌*◌, ◌/◌, ◌%◌, ◌^◌, ◌<◌, ◌≤◌, true, ◌≢◌, bit_and}
use Rattle.std.proofs.Math.Nat.{div-eq_of_lt}
use Rattle.std.proofs.Common.{div-mul-le_self, mod-eq_of_lt, zero-mul, arith, inl, inr, sym, ap, ◌∙◌, pow_mono}
use Rattle.std.proofs.lemmas.Nat.Bits.{and_high}
use Rattle.std.proofs.lemmas.Nat.{mod_below, pow_pos, shr_le, and_le_l, and_mod, and_shr}
use Rattle.std.proofs.lemmas.Bool.{cases_lt, eqb-true, eq-eqb}
use Rattle.policy.specs.Masks.{above, has}

-- a byte has no bit from 8 on
past : (mask port : ℕ) → mask < 256 → 8 ≤ port → mask / 2 ^ port ≡ 0
past mask port h p = div-eq_of_lt (omega (arith, pow_mono {i = 8} {j = port} p))

-- so its ports are 0 to 7
pub has_below : (mask port : ℕ) → mask < 256 → has mask port ≡ true → port < 8
unfolding has
has_below mask port h e =
    elim (cases_lt port 8) [
      | inl l ↦ l
      | inr g ↦
          let one : mask / 2 ^ port % 2 ≡ 1 = eqb-true (mask / 2 ^ port % 2) 1 e in
          let none : mask / 2 ^ port ≡ 0 = past mask port h g in
          omega arith
    ]

-- the mask 0 has none
pub has_none : (port : ℕ) → has 0 port ≢ true
unfolding has
has_none port e =
    let one : 0 / 2 ^ port % 2 ≡ 1 = eqb-true (0 / 2 ^ port % 2) 1 e in
    let none : 0 / 2 ^ port ≡ 0 = div-eq_of_lt (pow_pos port) in
    omega arith

-- a port of two masks is a port of the first
pub has_and : (a b port : ℕ) → has (bit_and a b) port ≡ true → has a port ≡ true
unfolding has
has_and a b port e =
    let x = a / 2 ^ port in
    let y = b / 2 ^ port in
    let one : bit_and a b / 2 ^ port % 2 ≡ 1 = eqb-true (bit_and a b / 2 ^ port % 2) 1 e in
    let parts : bit_and a b / 2 ^ port % 2 ≡ bit_and (x % 2) (y % 2) = ap (λ n. n % 2) (and_shr a b port) ∙ and_mod x y 1 in
    eq-eqb (x % 2) 1 (omega (arith, and_le_l (x % 2) (y % 2), mod_below x 2 (omega arith)))

-- the ports above one are those of two masks
above_and : (port mask : ℕ) → mask < 256 → above port mask ≡ bit_and mask (2 ^ (8 + (port + 1)) - 2 ^ (port + 1))
unfolding above
above_and port mask h =
    let small : mask / 2 ^ (port + 1) < 2 ^ 8 = omega (arith, shr_le mask (port + 1)) in
    sym (and_high mask 8 (port + 1) ∙ ap (λ n. n * 2 ^ (port + 1)) (mod-eq_of_lt small))

pub has_above : (last mask port : ℕ) → mask < 256 → has (above last mask) port ≡ true → has mask port ≡ true
has_above last mask port h e =
    let both = 2 ^ (8 + (last + 1)) - 2 ^ (last + 1) in
    has_and mask both port (rw (above_and last mask h) at e)

pub above_le : (port mask : ℕ) → above port mask ≤ mask
unfolding above
above_le port mask = div-mul-le_self mask (2 ^ (port + 1))

-- above port 7 there is none
pub above_none : (port mask : ℕ) → mask < 256 → 7 ≤ port → above port mask ≡ 0
unfolding above
above_none port mask h p = ap (λ n. n * 2 ^ (port + 1)) (past mask (port + 1) h (omega arith)) ∙ zero-mul (2 ^ (port + 1))
