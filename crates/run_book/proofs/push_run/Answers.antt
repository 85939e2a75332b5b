use Rattle.std.proofs.Common.{arith}
use Rattle.lists.specs.Views.{ports_of}
use Rattle.lists.proofs.PortLists.{short_ports}
use Rattle.run_book.specs.RunSpelling.{run_added}
use Rattle.run_book.proofs.push_run.Goals as goal

pub returns : goal.returns
returns c =
    run_added (ports_of c.args.list.now) (ports_of c.loop.list) c.args.port c.args.count c.loop.counter
    (omega arith) (omega arith) (omega arith) c.loop.invariant (short_ports c.loop.list)
