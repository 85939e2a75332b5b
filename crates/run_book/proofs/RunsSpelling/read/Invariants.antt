use Rattle.std.proofs.Common.{◌≡◌, ◌*◌, drop}
use Rattle.lists.specs.Views.{ports_of}
use Rattle.run_book.specs.Spelling.{behind, expanded, fitting, run_list}
use Rattle.run_book.proofs.RunsSpelling.read.Given as goal

-- the list so far and the pairs to come spell what the whole spells
abbrev pub invariant-loop-port : goal.invariant-loop-port
invariant-loop-port l = fitting (behind (ports_of l.list) (expanded (drop (2 * l.port-index) l.bytes))) ≡ run_list l.bytes
