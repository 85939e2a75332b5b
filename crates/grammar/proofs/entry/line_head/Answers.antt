use Rattle.std.proofs.Common.{codes, arith, rules, length, ◌<◌, ◌≤◌}
use Rattle.std.proofs.lemmas.Slice.Eq.{text_from_reads}
use Rattle.grammar.proofs.entry.line_head.Goals as goal

pub returns-in-Keyword-boards-default : goal.returns-in-Keyword-boards-default
returns-in-Keyword-boards-default c =
    let arm = c.in-Keyword-boards-default in
    let least : 6 ≤ length arm.field-0.now = rw arm.is at arm.len_at_least in
    let below : length arm.field-0.now < 7 = rw arm.is at arm.len_below in
    rw (arm.is, text_from_reads arm.field-0.now (codes "boards") (omega arith) (search rules))
