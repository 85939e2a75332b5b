use Rattle.std.proofs.Common.{◌≡◌, ◌++◌, drop}
use Rattle.lists.specs.Views.{ports_of}
use Rattle.path_book.specs.Spelling.{path_list}
use Rattle.path_book.proofs.PathSpelling.read.Given as goal

-- the list so far and the bytes to come spell what the whole spells
abbrev pub invariant-loop-byte : goal.invariant-loop-byte
invariant-loop-byte l = path_list (ports_of l.list ++ drop l.byte-index l.bytes) ≡ path_list l.bytes
