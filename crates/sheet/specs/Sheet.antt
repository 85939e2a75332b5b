-- Reading a sheet: line after line, each judged by what the lines before it gave.
use Rattle.std.specs.Prelude.{ℕ, ◌+◌, cond, List, [], ◌∷◌, ◌++◌, length, drop, Some, None, Ok, Err, Option, Result, nat_lt}
use Rattle.plan.specs.Answers.{bind, lift}
use Rattle.plan.specs.Plan.{admitted, counted, end_at}
use Rattle.plan.specs.declared.wire.Wire.{Wire}
use Rattle.plan.specs.declared.wire.WireState.{WireState}
use Rattle.grammar.specs.Entries.{entry_of}
use Rattle.grammar.specs.declared.entry.Entry.{Entry}
use Rattle.grammar.specs.declared.entry.Entry.TheVariants.{Skip, Boards, Wires}
use Rattle.grammar.specs.declared.entry.WireEntry.{WireEntry}
use Rattle.grammar.specs.declared.fault.SheetFault.{SheetFault}
use Rattle.grammar.specs.declared.fault.SheetFault.TheVariants.{TooLong, Misplaced, InPlan, UnknownState, TableFull}
use Rattle.sheet.specs.declared.counts.Counts.{Counts}
use Rattle.text.specs.Text.{lines}

-- what the lines so far gave: the board count, if it came, and the wires in their order
pub record Taken : Type 0 where
  pub boards : Option ℕ
  pub wires : List Wire

abbrev pub nothing : Taken
nothing = record { boards = None; wires = [] }

-- the board count, on line n: it comes once
abbrev pub boards_taken : ℕ → ℕ → Taken → Option ℕ → Result Taken SheetFault
boards_taken n k t (Some count) = Err (Misplaced n)
boards_taken n k t None = bind (lift InPlan (counted k n)) (λ count. Ok (record { boards = Some count; wires = t.wires }))

abbrev pub stated : ℕ → Option WireState → Result WireState SheetFault
stated n (Some s) = Ok s
stated n None = Err (UnknownState n)

-- a wire behind the wires so far, in a table with room for so many
abbrev pub wire_added : ℕ → ℕ → ℕ → Taken → Wire → Result Taken SheetFault
wire_added room n count t w =
    bind (lift InPlan (admitted count t.wires w n)) (λ _.
    cond (nat_lt (length t.wires) room) (Ok (record { boards = t.boards; wires = t.wires ++ w ∷ [] })) (Err (TableFull n)))

-- a wire, on line n: behind the board count
abbrev pub wire_taken : ℕ → ℕ → WireEntry → Taken → Option ℕ → Result Taken SheetFault
wire_taken room n e t None = Err (Misplaced n)
wire_taken room n e t (Some count) =
    bind (lift InPlan (end_at count e.first.board e.first.port n)) (λ first.
    bind (lift InPlan (end_at count e.second.board e.second.port n)) (λ second.
    bind (stated n e.state) (λ state.
    wire_added room n count t (record { first = first; second = second; state = state }))))

abbrev pub entry_taken : ℕ → ℕ → Taken → Entry → Result Taken SheetFault
entry_taken room n t Skip = Ok t
entry_taken room n t (Boards k) = boards_taken n k t t.boards
entry_taken room n t (Wires e) = wire_taken room n e t t.boards

-- line n, after what was taken before it
abbrev pub line_taken : ℕ → ℕ → Taken → List ℕ → Result Taken SheetFault
line_taken room n t line = bind (entry_of n line) (entry_taken room n t)

-- the answer where the lines end before line n
abbrev pub ended : ℕ → Taken → Option ℕ → Result Counts SheetFault
ended n t None = Err (Misplaced n)
ended n t (Some count) = Ok (record { boards = count; wires = length t.wires })

-- what is taken in the end, and the answer; the first faulty line decides
unfoldable pub lines_read : ℕ → ℕ → List (List ℕ) → Taken → Taken × Result Counts SheetFault
lines_read room n [] t = (t, ended n t t.boards)
lines_read room n (l ∷ ls) t = elim (line_taken room n t l) [ Ok u ↦ lines_read room (n + 1) ls u | Err f ↦ (t, Err f) ]

-- a sheet has at most 32,768 bytes
abbrev pub size_check : List ℕ → Result (Unit {0}) SheetFault
size_check sheet = cond (nat_lt 32768 (length sheet)) (Err TooLong) (Ok tt)

-- what is taken of a sheet, and the answer
unfoldable pub sheet_read : ℕ → List ℕ → Taken × Result Counts SheetFault
sheet_read room sheet = elim (size_check sheet) [ Ok _ ↦ lines_read room 1 (lines sheet) nothing | Err f ↦ (nothing, Err f) ]

abbrev pub sheet_answer : ℕ → List ℕ → Result Counts SheetFault
sheet_answer room sheet = (sheet_read room sheet).1

-- the wires of the lines taken
abbrev pub sheet_wires : ℕ → List ℕ → List Wire
sheet_wires room sheet = (sheet_read room sheet).0.wires

-- a table that begins with the wires taken, its other records as they were
abbrev pub filled : List Wire → List Wire → List Wire
filled wires table = wires ++ drop (length wires) table
