-- The lowest port of a mask.
use Rattle.std.specs.Prelude.{◌≡◌, ℕ, ◌<◌, ◌≤◌, true, Some, nat_eq, refl}
use Rattle.std.specs.Option.{option_or, unwrap_or}
use Rattle.std.proofs.Common.{ap, arith, inl, inr}
use Rattle.std.specs.Int.Count.{count_trailing_zeros}
use Rattle.std.proofs.lemmas.Bool.{cases_eq, eqb-true, eq-eqb, ne_eqb}
use Rattle.policy.specs.Masks.{above, first_of, has, lowest, lowest_in, lowest_of}
use Rattle.policy.specs.Rules.{next}
use Rattle.policy.specs.Below.{all_masks, at_mask}
use Rattle.policy.specs.Bits.{above_le, has_above}

lowest_tested : all_masks (λ m. has m (lowest m)) ≡ true
unfolding has first_of lowest
lowest_tested = refl

-- every mask but 0 has its lowest port
pub lowest_has : (mask : ℕ) → mask < 256 → 0 < mask → has mask (lowest mask) ≡ true
lowest_has mask small some = at_mask (λ m. has m (lowest m)) lowest_tested mask small some

zeros_tested : all_masks (λ m. nat_eq (count_trailing_zeros 8 m) (lowest m)) ≡ true
unfolding has first_of lowest count_trailing_zeros
zeros_tested = refl

-- the lowest port by counting the zeros below it
pub lowest_zeros : (mask : ℕ) → mask < 256 → 0 < mask → count_trailing_zeros 8 mask ≡ lowest mask
lowest_zeros mask small some =
    eqb-true (count_trailing_zeros 8 mask) (lowest mask)
    (at_mask (λ m. nat_eq (count_trailing_zeros 8 m) (lowest m)) zeros_tested mask small some)

pub lowest_none : lowest 0 ≡ 0
unfolding has first_of lowest
lowest_none = refl

-- one of the others, if the preferred are among them
pub lowest_of_has : (preferred others : ℕ) → others < 256 → 0 < others → preferred ≤ others
    → ((port : ℕ) → has preferred port ≡ true → has others port ≡ true) → has others (lowest_of preferred others) ≡ true
lowest_of_has preferred others small some le among =
    elim (cases_eq preferred 0) [
      | inl e ↦ rw (eq-eqb preferred 0 e) (lowest_has others small some)
      | inr e ↦ rw (ne_eqb preferred 0 e) (among (lowest preferred) (lowest_has preferred (omega arith) (omega arith)))
    ]

-- the next port is one of the mask
pub next_has : (mask last : ℕ) → mask < 256 → 0 < mask → has mask (next mask last) ≡ true
next_has mask last small some =
    lowest_of_has (above last mask) mask small some (above_le last mask) (λ port. has_above last mask port small)

-- a mask's lowest port as an option, and the first of two such options
pub lowest_some : (mask : ℕ) → mask < 256 → 0 < mask → Some (count_trailing_zeros 8 mask) ≡ lowest_in mask
lowest_some mask small some = rw (ne_eqb mask 0 (λ e. omega arith)) (ap Some (lowest_zeros mask small some))

pub lowest_or : (mask : ℕ) → unwrap_or (lowest_in mask) 0 ≡ lowest mask
lowest_or mask = elim (cases_eq mask 0) [
  | inl e ↦ rw (eq-eqb mask 0 e, e, lowest_none)
  | inr e ↦ rw (ne_eqb mask 0 e)
]

pub lowest_first : (preferred others : ℕ) → unwrap_or (option_or (lowest_in preferred) (lowest_in others)) 0 ≡ lowest_of preferred others
lowest_first preferred others = elim (cases_eq preferred 0) [
  | inl e ↦ rw (eq-eqb preferred 0 e) (lowest_or others)
  | inr e ↦ rw (ne_eqb preferred 0 e)
]
