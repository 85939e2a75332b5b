-- The reader's tables, one wire more.
use Rattle.std.proofs.Common.{◌≡◌, ℕ, ◌+◌, ◌<◌, ◌≤◌, cond, ltb, List, [], ◌∷◌, ◌++◌, length, get_or, drop, set, Ok, Err, Result, sym, refl, ap, ◌∙◌, ⊎_elim, arith, length-append, length-drop, MatchResult}
use lib.Seq.{append_snoc}
use Rattle.std.proofs.lemmas.List.{length_push, drop_more, set_at}
use Rattle.std.proofs.lemmas.Bool.{cases_lt, cond-false, cond-true, lt-ltb, le-ltb}
use Rattle.plan.specs.Marks.{Marks}
use Rattle.plan.specs.Plan.{admitted}
use Rattle.plan.specs.declared.wire.Wire.{Wire}
use Rattle.sheet.specs.Sheet.{Taken, filled, wire_added}
use Rattle.sheet.specs.Tracks.{Took, Tracks}
use Rattle.grammar.specs.declared.fault.SheetFault.{SheetFault}
use Rattle.sheet.specs.declared.reader.Reader.{Reader}
use Rattle.grammar.specs.declared.fault.SheetFault.TheVariants.{TableFull}

pub length_filled : (ws start : List Wire) → length ws ≤ length start → length (filled ws start) ≡ length start
length_filled ws start h = omega (arith, length-append ws (drop (length ws) start), length-drop (length ws) start)

-- one wire more at the end of those written
pub filled_more : (ws start : List Wire) (w d : Wire) → length ws < length start
    → set (filled ws start) (length ws) w ≡ filled (ws ++ w ∷ []) start
filled_more ws start w d h =
    let more = drop_more start (length ws) d h in
    let one = set_at ws (get_or start (length ws) d) (drop (length ws + 1) start) w (length ws) refl in
    let len = length_push ws w in
    ap (λ rest. set (ws ++ rest) (length ws) w) more ∙ one ∙ sym (append_snoc ws w (drop (length ws + 1) start))
    ∙ ap (λ n. (ws ++ w ∷ []) ++ drop n start) (sym len)

module _ (room n count : ℕ) (t : Taken) (w : Wire) (ok : admitted count t.wires w n ≡ Ok tt) where
  added_full : room ≤ length t.wires → wire_added room n count t w ≡ Err (TableFull n)
  added_full h = rw (ok, le-ltb (length t.wires) room h)

  pub added_more : length t.wires < room
      → wire_added room n count t w ≡ Ok (record { boards = t.boards; wires = t.wires ++ w ∷ [] })
  added_more h = rw (ok, lt-ltb (length t.wires) room h)

-- a wire that fits, written where the table has a record left
module _ (old new : Reader) (table after start : List Wire) (t : Taken) (w : Wire) (n count : ℕ) (k : Tracks old table start t)
    (ok : admitted count t.wires w n ≡ Ok tt) (marks : Marks new.ports (t.wires ++ w ∷ [])) (boards : new.boards ≡ old.boards) where
  pub stored_took : (r : Result (Unit {0}) SheetFault)
      → r ≡ cond (ltb old.wires (length table)) (Ok tt) (Err (TableFull n))
      → MatchResult r (λ _. (after ≡ set table old.wires w) × (new.wires ≡ old.wires + 1))
      (λ _. (after ≡ table) × (new.wires ≡ old.wires))
      → Took r new after start (wire_added (length start) n count t w)
  stored_took r answer stored =
      let len : length table ≡ length start = ap length k.records ∙ length_filled t.wires start k.within in
      let old_wires = k.wires in
      ⊎_elim
      (λ h. let is : r ≡ Ok tt = answer ∙ cond-true (ltb old.wires (length table)) (Ok tt) (Err (TableFull n)) (lt-ltb old.wires (length table) h) in
      let room : length t.wires < length start = omega arith in
      let facts = rw is at stored in
      rw (added_more (length start) n count t w ok room) (
        is,
        record {
          boards = boards ∙ k.boards;
          wires = omega (arith, length_push t.wires w, facts.1);
          marks = marks;
          within = omega (arith, length_push t.wires w);
          records = facts.0 ∙ ap (λ l. set l old.wires w) k.records ∙ ap (λ i. set (filled t.wires start) i w) k.wires
              ∙ filled_more t.wires start w w room;
        },
      ))
      (λ h. let is : r ≡ Err (TableFull n) = answer ∙ cond-false (ltb old.wires (length table)) (Ok tt) (Err (TableFull n)) (le-ltb old.wires (length table) h) in
      rw (added_full (length start) n count t w ok (omega arith)) is)
      (cases_lt old.wires (length table))

-- an answer tells what the definition took
pub took_ok : (reader : Reader) (table start : List Wire) (x : Result Taken SheetFault) → Took (Ok tt) reader table start x
    → (t : Taken) × (x ≡ Ok t) × Tracks reader table start t
took_ok reader table start (Ok t) k = (t, refl, k.1)
took_ok reader table start (Err f) k = absurd (cc)

pub took_err : (reader : Reader) (table start : List Wire) (f : SheetFault) (x : Result Taken SheetFault)
    → Took (Err f) reader table start x → x ≡ Err f
took_err reader table start f (Ok t) k = let answer = k.0 in absurd (cc)
took_err reader table start f (Err g) k = let same : g ≡ f = cc in ap Err same
