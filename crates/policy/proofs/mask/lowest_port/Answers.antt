use Rattle.std.proofs.Common.{arith}
use Rattle.policy.specs.Lows.{lowest_some}
use Rattle.policy.proofs.mask.lowest_port.Goals as goal

pub returns : goal.returns
returns c = lowest_some c.args.mask (omega arith) (omega arith)
