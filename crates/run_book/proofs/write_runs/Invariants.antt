use Rattle.std.proofs.Common.{◌≡◌, ◌+◌, ◌*◌, ◌≤◌, ◌++◌, length, take, drop}
use Rattle.std.specs.Slice.Iter.{chunk_by_rest}
use Rattle.run_book.specs.Spelling.{runs}
use Rattle.run_book.proofs.write_runs.Given as goal

-- the pairs written and those of the ports to come are the pairs of all; behind them nothing changed
abbrev pub invariant-loop-run : goal.invariant-loop-run
invariant-loop-run l = record {
  can_next : (goal.iterator-loop-run).can_next l.run-iterator;
  is_finite : (goal.iterator-loop-run).is_finite l.run-iterator;
  room : l.size + 2 * length (chunk_by_rest l.run-iterator) ≤ 254;
  front : take l.size l.memory ++ runs (chunk_by_rest l.run-iterator) ≡ runs l.ports;
  back : drop l.size l.memory ≡ drop l.size l.initial.memory;
}
