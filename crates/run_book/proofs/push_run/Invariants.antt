use Rattle.std.proofs.Common.{◌≡◌, ◌++◌, replicate}
use Rattle.lists.specs.Views.{ports_of}
use Rattle.run_book.proofs.push_run.Given as goal

-- the list so far has so many ports of the run
abbrev pub invariant-loop : goal.invariant-loop
invariant-loop l = ports_of l.list ≡ ports_of l.initial.list ++ replicate l.counter l.port
