use Rattle.std.proofs.Common.{◌≡◌, ◌++◌, take, drop}
use Rattle.policy.specs.Picks.{picks_of, state_after}
use Rattle.policy.proofs.picks.pick_each.Given as goal

abbrev pub invariant-loop-i : goal.invariant-loop-i
invariant-loop-i g l =
    (l.picks ≡ picks_of g.P.Policy.rule (g.P.Policy.state l.initial.policy) (take l.i l.offer-items) ++ drop l.i l.initial.picks)
    × (g.P.Policy.state l.policy ≡ state_after g.P.Policy.rule (g.P.Policy.state l.initial.policy) (take l.i l.offer-items))
