-- What reading is for: a plan written as a sheet is read back.
use Rattle.std.specs.Prelude.{◌≡◌, ℕ, ◌≤◌, List, length, Ok, Result}
use Rattle.plan.specs.Plan.{Good}
use Rattle.plan.specs.declared.wire.Wire.{Wire}
use Rattle.sheet.specs.Sheet.{filled}
use Rattle.sheet.specs.Writing.{written}
use Rattle.grammar.specs.declared.fault.SheetFault.{SheetFault}
use Rattle.sheet.specs.declared.counts.Counts.{Counts}

-- where the sheet is the written form of a good plan, and the table has room for its wires, the
-- answer is the plan's board count and number of wires, and the table then begins with its wires
abbrev pub ReadsBack : List ℕ → List Wire → Result Counts SheetFault → List Wire → Type 0
ReadsBack sheet before r after =
    (count : ℕ) (wires : List Wire) → Good count wires → length wires ≤ length before → sheet ≡ written count wires
    → (r ≡ Ok (record { boards = count; wires = length wires })) × (after ≡ filled wires before)
