use Rattle.std.proofs.Common.{sym, mod-eq_of_lt, arith}
use Rattle.policy.specs.Masks.{above}
use Rattle.policy.specs.Bits.{above_le, above_none}
use Rattle.policy.proofs.mask.ports_above.Goals as goal

pub returns-then-port-ge-HIGHEST_PORT : goal.returns-then-port-ge-HIGHEST_PORT
returns-then-port-ge-HIGHEST_PORT c = sym (above_none c.args.port c.args.mask (omega arith) (omega arith))

pub returns : goal.returns
unfolding above
returns c = mod-eq_of_lt (omega (arith, above_le c.args.port c.args.mask))
