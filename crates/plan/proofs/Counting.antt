-- A good plan has at most 512 wires: each takes two ports of 1,024.
use Rattle.std.proofs.Common.{◌≡◌, ℕ, ◌+◌, ◌*◌, ◌<◌, ◌≤◌, Bool, true, false, cond, ◌≢◌, List, [], ◌∷◌, ◌++◌, length, get_or, set, replicate, count_by, ap, ◌∙◌, arith, length-set, get_or-set_other}
use Rattle.std.proofs.lemmas.List.{length-replicate}
use Rattle.std.proofs.lemmas.List.Sums.{count_by-le-length, sum_by-set}
use Rattle.std.proofs.lemmas.Bool.{or_parts}
use Rattle.std.proofs.lemmas.Bool.Decides.{nat_tests}
use Rattle.plan.specs.Plan.{taken, Fits, AllFit, Good}
use Rattle.plan.specs.Marks.{Marks, marked, entry_of}
use Rattle.plan.specs.declared.wire.Wire.{Wire}
use Rattle.plan.proofs.Marking.{marks_none, marks_more}

abbrev held : List Bool → ℕ
held table = count_by (λ b. b) table

-- an entry that was false is set
held_set : (table : List Bool) (i : ℕ) → i < length table → get_or table i false ≡ false
    → held (set table i true) ≡ held table + 1
held_set table i h f =
    let one : ℕ = cond (get_or table i false) 1 0 in
    let none : one ≡ 0 = ap (λ b. cond b 1 0) f in
    let e : held (set table i true) + one ≡ held table + 1 = sum_by-set (λ b. cond b 1 0) table i true false h in
    omega arith

-- what a fitting wire says of its numbers
record Numbers (w : Wire) : Type 0 where
  b₁ : w.first.board < 128
  p₁ : w.first.port < 8
  b₂ : w.second.board < 128
  p₂ : w.second.port < 8
  apart : w.second.board ≡ w.first.board → ⊥

numbers : (count : ℕ) (before : List Wire) (w : Wire) → count ≤ 128 → Fits count before w → Numbers w
numbers count before w c f =
    let i = f.inside in let a = f.apart in
    record {
      b₁ = grind (arith, nat_tests);
      p₁ = grind (arith, nat_tests);
      b₂ = grind (arith, nat_tests);
      p₂ = grind (arith, nat_tests);
      apart = λ e. grind (arith, nat_tests);
    }

-- a wire that fits adds two
held_more : (count : ℕ) (before : List Wire) (table : List Bool) (w : Wire) → count ≤ 128 → length table ≡ 1024
    → Marks table before → Fits count before w → held (marked table w) ≡ held table + 2
held_more count before table w c l m f =
    let n = numbers count before w c f in
    let free = or_parts (taken before w.first) (taken before w.second) f.free in
    let i = entry_of w.first in
    let j = entry_of w.second in
    let apart : j ≢ i = λ e. n.apart (omega arith) in
    let none_i : get_or table i false ≡ false = m.told w.first (omega arith) n.p₁ ∙ free.0 in
    let none_j : get_or (set table i true) j false ≡ false =
    get_or-set_other table i j true false apart ∙ m.told w.second (omega arith) n.p₂ ∙ free.1 in
    let at_i : held (set table i true) ≡ held table + 1 = held_set table i (omega arith) none_i in
    let long : length (set table i true) ≡ 1024 = length-set table i true ∙ l in
    let at_j : held (set (set table i true) j true) ≡ held (set table i true) + 1 =
    held_set (set table i true) j (omega arith) none_j in
    omega arith

two_each : (count : ℕ) (before : List Wire) (table : List Bool) (ws : List Wire) → count ≤ 128 → length table ≡ 1024
    → Marks table before → AllFit count before ws → held table + 2 * length ws ≤ 1024
two_each count before table [] c l m a = omega (arith, count_by-le-length (λ b. b) table)
two_each count before table (w ∷ ws) c l m a =
    let n = numbers count before w c a.0 in
    let more = held_more count before table w c l m a.0 in
    let marks = marks_more table before w (omega arith) n.p₁ (omega arith) n.p₂ m in
    let long : length (marked table w) ≡ 1024 =
    length-set (set table (entry_of w.first) true) (entry_of w.second) true
    ∙ length-set table (entry_of w.first) true ∙ l in
    let rest = two_each count (before ++ w ∷ []) (marked table w) ws c long marks a.1 in
    omega arith

pub few_wires : (count : ℕ) (ws : List Wire) → Good count ws → length ws ≤ 512
few_wires count ws g =
    let c : count ≤ 128 = let b = g.boards in grind (arith, nat_tests) in
    let l : length (replicate 1024 false) ≡ 1024 = length-replicate 1024 false in
    omega (arith, two_each count [] (replicate 1024 false) ws c l (marks_none 1024) g.fits)
