-- The table of taken ports, from no wire on.
use Rattle.std.proofs.Common.{◌≡◌, ℕ, ◌<◌, Bool, true, false, ◌||◌, eqb, ◌≢◌, List, [], ◌∷◌, ◌++◌, length, get_or, set, replicate, sym, ap, ◌∙◌, ⊎_elim, arith, length-set, get_or-set_other, get_or-set_same}
use mathlib.Core.Bool.{or_assoc, or-false, or-true}
use Rattle.std.proofs.lemmas.List.{get_or-replicate, get_or_past, length-replicate}
use Rattle.std.proofs.lemmas.Bool.{cases_eq, cases_lt, and_from, eq-eqb}
use Rattle.std.proofs.lemmas.Bool.Decides.{nat_tests}
use Rattle.plan.specs.Plan.{taken, same_end}
use Rattle.plan.specs.Marks.{Marks, marked, entry_of}
use Rattle.plan.specs.declared.wire.End.{End}
use Rattle.plan.specs.declared.wire.Wire.{Wire}

pub marks_none : (n : ℕ) → Marks (replicate n false) []
marks_none n = record {
  told = λ e b p. ⊎_elim (get_or-replicate n (entry_of e) false false)
      (λ h. get_or_past (replicate n false) (entry_of e) false (rw (length-replicate n false) h))
      (cases_lt (entry_of e) n);
}

-- one wire more at the end of the list
pub taken_push : (ws : List Wire) (w : Wire) (e : End)
    → taken (ws ++ w ∷ []) e ≡ (taken ws e || (same_end w.first e || same_end w.second e))
taken_push [] w e = or-false (same_end w.first e || same_end w.second e)
taken_push (v ∷ ws) w e =
    let here = same_end v.first e || same_end v.second e in
    ap (λ b. here || b) (taken_push ws w e) ∙ sym (or_assoc here (taken ws e) (same_end w.first e || same_end w.second e))

-- two ends have one entry only where they are the same
pub entry_same : (d e : End) → d.port < 8 → e.port < 8 → entry_of d ≡ entry_of e → same_end d e ≡ true
entry_same d e p q h =
    and_from (eqb d.board e.board) (eqb d.port e.port)
    (eq-eqb d.board e.board (omega arith))
    (eq-eqb d.port e.port (omega arith))

pub entry_other : (d e : End) → (entry_of d ≡ entry_of e → ⊥) → same_end d e ≡ false
entry_other d e h = grind (arith, nat_tests)

-- an entry after it was set, or not
set_told : (table : List Bool) (d e : End) → entry_of d < length table → d.port < 8 → e.port < 8
    → get_or (set table (entry_of d) true) (entry_of e) false ≡ (get_or table (entry_of e) false || same_end d e)
set_told table d e in_table p q =
    ⊎_elim
    (λ h. let s = entry_same d e p q h in
    let lt : entry_of e < length table = omega arith in
    rw (h, s, or-true (get_or table (entry_of e) false)) (get_or-set_same table (entry_of e) true false lt))
    (λ h. let s = entry_other d e h in
    let ne : entry_of e ≢ entry_of d = λ k. h (sym k) in
    rw (s, or-false (get_or table (entry_of e) false)) (get_or-set_other table (entry_of d) (entry_of e) true false ne))
    (cases_eq (entry_of d) (entry_of e))

-- the table with one wire more
pub marks_more : (table : List Bool) (ws : List Wire) (w : Wire)
    → entry_of w.first < length table → w.first.port < 8 → entry_of w.second < length table → w.second.port < 8
    → Marks table ws → Marks (marked table w) (ws ++ w ∷ [])
marks_more table ws w b₁ p₁ b₂ p₂ m = record {
  told = λ e b p.
      set_told (set table (entry_of w.first) true) w.second e (rw (length-set table (entry_of w.first) true) b₂) p₂ p
      ∙ ap (λ t. t || same_end w.second e) (set_told table w.first e b₁ p₁ p ∙ ap (λ t. t || same_end w.first e) (m.told e b p))
      ∙ or_assoc (taken ws e) (same_end w.first e) (same_end w.second e)
      ∙ sym (taken_push ws w e);
}
