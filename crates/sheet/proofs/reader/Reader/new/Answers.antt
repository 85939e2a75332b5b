use Rattle.std.proofs.Common.{[], rules}
use Rattle.plan.specs.Marks.{Marks}
use Rattle.plan.proofs.Marking.{marks_none}
use Rattle.sheet.proofs.reader.Reader.new.Goals as goal

pub returns : goal.returns
returns c = let marks : Marks c.new.result [] = rw c.new.ensures (marks_none 2048) in λ start. search rules
