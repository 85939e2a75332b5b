-- Parts of a text: from one place up to and without another.
use Rattle.std.proofs.Common.{◌≡◌, ℕ, ◌+◌, ◌-◌, ◌≤◌, min, List, length, take, drop, sym, ap, ◌∙◌, arith, length-drop, length-take, take-take, drop-drop}
use Rattle.std.proofs.lemmas.List.{drop-take}
use Rattle.text.specs.Views.{part}

pub length_part : (text : List ℕ) (start end : ℕ) → length (part text start end) ≡ min (end - start) (length text - start)
length_part text start end = length-take (end - start) (drop start text) ∙ ap (min (end - start)) (length-drop start text)

-- a part without its first bytes
pub part_drop : (text : List ℕ) (start end k : ℕ) → k ≤ length (part text start end)
    → drop k (part text start end) ≡ part text (start + k) end
part_drop text start end k h =
    let len = length_part text start end in
    let m : end - start ≡ k + (end - start - k) = omega arith in
    let size : end - (start + k) ≡ end - start - k = omega arith in
    ap (λ j. drop k (take j (drop start text))) m
    ∙ drop-take k (end - start - k) (drop start text)
    ∙ ap (take (end - start - k)) (drop-drop k start text)
    ∙ ap (λ j. take j (drop (start + k) text)) (sym size)

-- a part of a part, by its place in the whole
pub part_part : (text : List ℕ) (start end k n : ℕ) → k + n ≤ length (part text start end)
    → take n (drop k (part text start end)) ≡ part text (start + k) (start + k + n)
part_part text start end k n h =
    let len = length_part text start end in
    let size : start + k + n - (start + k) ≡ n = omega arith in
    let short : n ≤ end - (start + k) = omega arith in
    let inner = part_drop text start end k (omega arith) in
    rw (inner, size) (take-take n (end - (start + k)) (drop (start + k) text) short)
