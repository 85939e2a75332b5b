use Rattle.std.proofs.Common.{◌≡◌}
use Rattle.sheet.proofs.Reading.{Underway}
use Rattle.sheet.proofs.read.read_sheet.Given as goal

abbrev pub invariant-loop-line : goal.invariant-loop-line
invariant-loop-line l = Underway l.sheet l.line-iterator l.reader l.table l.initial.table × (l.lines ≡ l.line-iterator.number)
