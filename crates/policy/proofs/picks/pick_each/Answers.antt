use Rattle.std.proofs.Common.{arith}
use Rattle.std.proofs.lemmas.List.{length-take-le}
use Rattle.policy.proofs.Runs.{shown_more, shown_none}
use Rattle.policy.proofs.picks.pick_each.Goals as goal

pub loop-i-init : goal.loop-i-init
loop-i-init g c = shown_none g.P.Policy.rule (g.P.Policy.state c.args.policy.now) c.args.picks.now

pub loop-i-preserved : goal.loop-i-preserved
loop-i-preserved g c =
    shown_more g.P.Policy.rule (g.P.Policy.state c.args.policy.now) _ c.args.picks.now
    c.loop-i.i _ c.loop-i-test.true (grind (arith, length-take-le)) c.loop-i.picks (g.P.Policy.state c.loop-i.policy)
    c.pick.result (g.P.Policy.state c.pick.new.self) c.loop-i.invariant c.pick.ensures
