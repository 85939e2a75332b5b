-- The layer, number and place of each way in which a sheet can be refused.
use Rattle.std.specs.Prelude.{ℕ}
use Rattle.plan.specs.Faults.{plan_refusal}
use Rattle.plan.specs.declared.fault.Refusal.{Refusal}
use Rattle.grammar.specs.declared.fault.SheetFault.{SheetFault}
use Rattle.grammar.specs.declared.fault.SheetFault.TheVariants.{TooLong, InLine, UnknownLine, WordCount, Misplaced, InPlan, UnknownState, TableFull}
use Rattle.text.specs.declared.fault.LineFault.TheVariants.{TooLong as LineTooLong, BadByte, InWord}
use Rattle.text.specs.declared.fault.WordFault.TheVariants.{BadNumber}

abbrev sheet_fault : ℕ → ℕ → Refusal
sheet_fault number place = record { layer = 1; number = number; place = place }

abbrev pub sheet_refusal : SheetFault → Refusal
sheet_refusal TooLong = sheet_fault 1 0
sheet_refusal (InLine (LineTooLong line)) = sheet_fault 2 line
sheet_refusal (InLine (BadByte line)) = sheet_fault 3 line
sheet_refusal (UnknownLine line) = sheet_fault 4 line
sheet_refusal (WordCount line) = sheet_fault 5 line
sheet_refusal (InLine (InWord (BadNumber line))) = sheet_fault 6 line
sheet_refusal (Misplaced line) = sheet_fault 7 line
sheet_refusal (InPlan fault) = plan_refusal 1 fault
sheet_refusal (UnknownState line) = sheet_fault 9 line
sheet_refusal (TableFull line) = sheet_fault 12 line
