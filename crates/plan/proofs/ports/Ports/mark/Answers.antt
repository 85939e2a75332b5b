use Rattle.std.proofs.Common.{arith}
use Rattle.plan.proofs.Marking.{marks_more}
use Rattle.plan.proofs.ports.Ports.mark.Goals as goal

pub returns-clause-marks : goal.returns-clause-marks
returns-clause-marks c before m =
    let wide = c.self.invariant in
    simp (c.entry.ensures, c.entry-2.ensures)
    (marks_more c.self.inside.taken before c.args.wire
    (omega (arith, wide)) (omega arith) (omega (arith, wide)) (omega arith) (rw c.self.view_is m))
