-- How the reader's own tables follow what the definition has taken.
use Rattle.std.specs.Prelude.{◌≡◌, ℕ, ◌≤◌, List, length, Ok, Err, Result}
use Rattle.plan.specs.Marks.{Marks}
use Rattle.plan.specs.declared.wire.Wire.{Wire}
use Rattle.sheet.specs.Sheet.{Taken, filled}
use Rattle.grammar.specs.declared.fault.SheetFault.{SheetFault}
use Rattle.sheet.specs.declared.reader.Reader.{Reader}

-- the reader and the table, which was `start` at first, hold what was taken
pub record Tracks (reader : Reader) (table start : List Wire) (t : Taken) : Type 0 where
  pub boards : reader.boards ≡ t.boards
  pub wires : reader.wires ≡ length t.wires
  pub marks : Marks reader.ports t.wires
  pub within : length t.wires ≤ length start
  pub records : table ≡ filled t.wires start

-- the answer to one entry, and what the reader and the table hold then
abbrev pub Took : Result (Unit {0}) SheetFault → Reader → List Wire → List Wire → Result Taken SheetFault → Type 0
Took r reader table start (Ok t) = (r ≡ Ok tt) × Tracks reader table start t
Took r reader table start (Err f) = r ≡ Err f

-- a call takes what `step` takes, in a table of so much room: if the reader and the table held what
-- was taken before, it answers as `step` does, and the two then hold what `step` took
abbrev pub TakesAs : (ℕ → Taken → Result Taken SheetFault) → Reader → List Wire → Result (Unit {0}) SheetFault → Reader → List Wire → Type 0
TakesAs step old before r new after =
    (t : Taken) (start : List Wire) → Tracks old before start t → Took r new after start (step (length start) t)
