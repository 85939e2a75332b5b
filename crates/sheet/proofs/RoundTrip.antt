-- A good plan, written as a sheet and read again, is that plan.
use Rattle.std.proofs.Common.{◌≡◌, ℕ, ◌+◌, ◌*◌, ◌<◌, ◌≤◌, List, [], ◌∷◌, ◌++◌, map, length, Some, Ok, codes, Result, sym, refl, ap, ◌∙◌, arith}
use lib.Seq.{append_snoc}
use Rattle.std.proofs.lemmas.List.{append-nil, length_push}
use Rattle.std.proofs.lemmas.Bool.{and_parts, le-ltb}
use Rattle.std.proofs.lemmas.Bool.Decides.{nat_tests}
use Rattle.plan.specs.Plan.{AllFit, Fits, Good, admitted, end_fits}
use Rattle.plan.specs.declared.wire.Wire.{Wire}
use Rattle.plan.specs.declared.wire.WireState.{WireState}
use Rattle.plan.specs.declared.wire.WireState.TheVariants.{Whole, OutOnly, BackOnly, Dead}
use Rattle.plan.specs.States.{state_word}
use Rattle.plan.proofs.Counting.{few_wires}
use Rattle.grammar.specs.Entries.{entry_of, state_of}
use Rattle.sheet.specs.Promises.{ReadsBack}
use Rattle.sheet.specs.Sheet.{Taken, filled, line_taken, lines_read, nothing, sheet_read}
use Rattle.sheet.specs.Writing.{boards_words, wire_line, wire_words, written}
use Rattle.grammar.specs.declared.entry.Entry.TheVariants.{Boards, Wires}
use Rattle.grammar.specs.declared.entry.WireEntry.{WireEntry}
use Rattle.grammar.specs.declared.fault.SheetFault.{SheetFault}
use Rattle.sheet.specs.declared.counts.Counts.{Counts}
use Rattle.sheet.proofs.Reading.{read_none, read_on, sheet_short}
use Rattle.sheet.proofs.Taking.{added_more}
use Rattle.text.specs.Text.{line_check}
use Rattle.text.specs.Writing.{digits, ended_lines, spaced}
use Rattle.text.proofs.Written.{AllLines, AllSolid, Solid, length_ended, length_ended_none, length_spaced, length_spaced_one, lines_ended, spaced_one_line, spaced_printable, spelled, words_spaced}

-- the numbers of a wire that fits
pub record Small (w : Wire) : Type 0 where
  pub b₁ : w.first.board < 128
  pub p₁ : w.first.port < 8
  pub b₂ : w.second.board < 128
  pub p₂ : w.second.port < 8

small : (count : ℕ) (before : List Wire) (w : Wire) → count ≤ 128 → Fits count before w → Small w
small count before w c f =
    let i = f.inside in
    record { b₁ = grind (arith, nat_tests); p₁ = grind (arith, nat_tests); b₂ = grind (arith, nat_tests); p₂ = grind (arith, nat_tests) }

-- its state
state_read : (s : WireState) → state_of (state_word s) ≡ Some s
state_read Whole = refl
state_read OutOnly = refl
state_read BackOnly = refl
state_read Dead = refl

state_solid : (s : WireState) → Solid (state_word s)
state_solid Whole = record { some = omega arith; visibly = refl }
state_solid OutOnly = record { some = omega arith; visibly = refl }
state_solid BackOnly = record { some = omega arith; visibly = refl }
state_solid Dead = record { some = omega arith; visibly = refl }

state_short : (s : WireState) → length (state_word s) ≤ 4
state_short Whole = omega arith
state_short OutOnly = omega arith
state_short BackOnly = omega arith
state_short Dead = omega arith

-- a line that is short enough and made of words passes the check
line_fine : (n : ℕ) (ws : List (List ℕ)) → AllSolid ws → length (spaced ws) ≤ 60 → line_check n (spaced ws) ≡ Ok tt
line_fine n ws s h = rw (le-ltb 60 (length (spaced ws)) h, spaced_printable ws s)

boards_solid : (count : ℕ) → count ≤ 128 → AllSolid (boards_words count)
boards_solid count h = (record { some = omega arith; visibly = refl }, ((spelled count (omega arith)).solid, tt))

boards_length : (count : ℕ) → count ≤ 128 → length (spaced (boards_words count)) ≤ 10
boards_length count h =
    omega (arith, (spelled count (omega arith)).short, length_spaced (codes "boards") (digits count) [], length_spaced_one (digits count))

wire_solid : (w : Wire) → Small w → AllSolid (wire_words w)
wire_solid w s = (
  record { some = omega arith; visibly = refl },
  (
    (spelled w.first.board (omega arith)).solid,
    (
      (spelled w.first.port (omega arith)).solid,
      (
        (spelled w.second.board (omega arith)).solid,
        (
          (spelled w.second.port (omega arith)).solid,
          (state_solid w.state, tt),
        ),
      ),
    ),
  ),
)

six_length : (a b c d e f : List ℕ)
    → length (spaced (a ∷ b ∷ c ∷ d ∷ e ∷ f ∷ [])) ≡ length a + length b + length c + length d + length e + length f + 5
six_length a b c d e f =
    omega (
      arith,
      length_spaced a b (c ∷ d ∷ e ∷ f ∷ []),
      length_spaced b c (d ∷ e ∷ f ∷ []),
      length_spaced c d (e ∷ f ∷ []),
      length_spaced d e (f ∷ []),
      length_spaced e f [],
      length_spaced_one f,
    )

wire_length : (w : Wire) → Small w → length (wire_line w) ≤ 25
wire_length w s =
    omega (
      arith,
      six_length (codes "wire") (digits w.first.board) (digits w.first.port) (digits w.second.board) (digits w.second.port) (state_word w.state),
      (spelled w.first.board (omega arith)).short,
      (spelled w.first.port (omega arith)).short,
      (spelled w.second.board (omega arith)).short,
      (spelled w.second.port (omega arith)).short,
      state_short w.state,
    )

-- what the lines say
boards_said : (n count : ℕ) → count ≤ 128 → entry_of n (spaced (boards_words count)) ≡ Ok (Boards count)
boards_said n count h =
    let s = boards_solid count h in
    let len = boards_length count h in
    rw (line_fine n (boards_words count) s (omega arith), words_spaced (boards_words count) s, (spelled count (omega arith)).reads n) refl

abbrev entry : Wire → WireEntry
entry w = record {
  first = record { board = w.first.board; port = w.first.port };
  second = record { board = w.second.board; port = w.second.port };
  state = Some w.state;
}

wire_said : (n : ℕ) (w : Wire) → Small w → entry_of n (wire_line w) ≡ Ok (Wires (entry w))
wire_said n w h =
    let s = wire_solid w h in
    let len = wire_length w h in
    rw (
      line_fine n (wire_words w) s (omega arith),
      words_spaced (wire_words w) s,
      (spelled w.first.board (omega arith)).reads n,
      (spelled w.first.port (omega arith)).reads n,
      (spelled w.second.board (omega arith)).reads n,
      (spelled w.second.port (omega arith)).reads n,
      state_read w.state,
    ) refl

abbrev so_far : ℕ → List Wire → Taken
so_far count wires = record { boards = Some count; wires = wires }

-- a line of a wire that fits is taken
wire_took : (room n count : ℕ) (before : List Wire) (w : Wire) → count ≤ 128 → Fits count before w → length before < room
    → line_taken room n (so_far count before) (wire_line w) ≡ Ok (so_far count (before ++ w ∷ []))
wire_took room n count before w c f h =
    let ends = and_parts (end_fits count w.first) (end_fits count w.second) f.inside in
    let ok : admitted count before w n ≡ Ok tt = rw (f.inside, f.apart, f.free) in
    rw (wire_said n w (small count before w c f), ends.0, ends.1) (added_more room n count (so_far count before) w ok h)

wires_took : (room n count : ℕ) (before wires : List Wire) → count ≤ 128 → AllFit count before wires
    → length before + length wires ≤ room
    → lines_read room n (map wire_line wires) (so_far count before)
    ≡ (so_far count (before ++ wires), Ok (record { boards = count; wires = length (before ++ wires) }))
wires_took room n count before [] c a h =
    rw (append-nil before) (read_none room n (so_far count before))
wires_took room n count before (w ∷ ws) c a h =
    let len = length_push before w in
    read_on room n (wire_line w) (map wire_line ws) (so_far count before) (so_far count (before ++ w ∷ []))
    (wire_took room n count before w c a.0 (omega arith))
    ∙ wires_took room (n + 1) count (before ++ w ∷ []) ws c a.1 (omega arith)
    ∙ ap (λ l. (so_far count l, Ok (record { boards = count; wires = length l }))) (append_snoc before w ws)

-- the lines of a written plan
wire_lines_one : (count : ℕ) (before wires : List Wire) → count ≤ 128 → AllFit count before wires → AllLines (map wire_line wires)
wire_lines_one count before [] c a = tt
wire_lines_one count before (w ∷ ws) c a =
    (spaced_one_line (wire_words w) (wire_solid w (small count before w c a.0)), wire_lines_one count (before ++ w ∷ []) ws c a.1)

wire_lines_length : (count : ℕ) (before wires : List Wire) → count ≤ 128 → AllFit count before wires
    → length (ended_lines (map wire_line wires)) ≤ 26 * length wires
wire_lines_length count before [] c a = omega (arith, length_ended_none)
wire_lines_length count before (w ∷ ws) c a =
    omega (
      arith,
      length_ended (wire_line w) (map wire_line ws),
      wire_length w (small count before w c a.0),
      wire_lines_length count (before ++ w ∷ []) ws c a.1,
    )

-- the plan comes back, in any table with room for its wires
round_trip : (room count : ℕ) (wires : List Wire) → Good count wires → length wires ≤ room
    → sheet_read room (written count wires) ≡ (so_far count wires, Ok (record { boards = count; wires = length wires }))
round_trip room count wires g h =
    let c : count ≤ 128 = let b = g.boards in grind (arith, nat_tests) in
    let few = few_wires count wires g in
    let short : length (written count wires) ≤ 32768 =
    omega (arith, length_ended (spaced (boards_words count)) (map wire_line wires), boards_length count c, wire_lines_length count [] wires c g.fits) in
    let one : AllLines (spaced (boards_words count) ∷ map wire_line wires) =
    (spaced_one_line (boards_words count) (boards_solid count c), wire_lines_one count [] wires c g.fits) in
    let boards : line_taken room 1 nothing (spaced (boards_words count)) ≡ Ok (so_far count []) =
    rw (boards_said 1 count c, g.boards) in
    sheet_short room (written count wires) (rw (le-ltb 32768 (length (written count wires)) short))
    ∙ ap (λ ls. lines_read room 1 ls nothing) (lines_ended (spaced (boards_words count) ∷ map wire_line wires) one)
    ∙ read_on room 1 (spaced (boards_words count)) (map wire_line wires) nothing (so_far count []) boards
    ∙ wires_took room 2 count [] wires c g.fits (omega arith)

-- what an answer that follows the definition then is
pub reads_back : (sheet : List ℕ) (before after : List Wire) (r : Result Counts SheetFault)
    → r ≡ (sheet_read (length before) sheet).1 → after ≡ filled (sheet_read (length before) sheet).0.wires before
    → ReadsBack sheet before r after
reads_back sheet before after r answer table count wires g h e =
    let trip = ap (sheet_read (length before)) e ∙ round_trip (length before) count wires g h in
    (answer ∙ ap (λ x. x.1) trip, table ∙ ap (λ x. filled x.0.wires before) trip)

-- a sheet was read to the end or to its first faulty line: what was taken, and the answer
pub record Read (sheet : List ℕ) (before after : List Wire) (r : Result Counts SheetFault) : Type 0 where
  pub answer : r ≡ (sheet_read (length before) sheet).1
  pub table : after ≡ filled (sheet_read (length before) sheet).0.wires before
  pub plan : ReadsBack sheet before r after

pub read_to : (sheet : List ℕ) (before after : List Wire) (r : Result Counts SheetFault) (t : Taken)
    → sheet_read (length before) sheet ≡ (t, r) → after ≡ filled t.wires before → Read sheet before after r
read_to sheet before after r t e k =
    let answer : r ≡ (sheet_read (length before) sheet).1 = sym (ap (λ x. x.1) e) in
    let table : after ≡ filled (sheet_read (length before) sheet).0.wires before = k ∙ sym (ap (λ x. filled x.0.wires before) e) in
    record { answer = answer; table = table; plan = reads_back sheet before after r answer table }
