use Rattle.std.proofs.Common.{◌++◌, sym, ap, ◌∙◌}
use Rattle.std.proofs.lemmas.List.{append-nil, drop_all}
use Rattle.lists.specs.Views.{ports_in, ports_of}
use Rattle.path_book.specs.Spelling.{path_list}
use Rattle.path_book.specs.PathSpelling.{path_reads, path_stop}
use Rattle.path_book.proofs.PathSpelling.read.Goals as goal

pub returns-in_err-ok : goal.returns-in_err-ok
returns-in_err-ok c =
    let none = sym c.ok.ensures.value ∙ c.in_err-ok.was in
    let stop = path_stop (ports_of c.loop-byte.list) _ c.args.bytes.now c.loop-byte.byte-index _ c.loop-byte-test.true none c.push.ensures.answer in
    record { value = ap ports_in c.from_residual.ensures ∙ sym stop ∙ c.loop-byte.invariant }

pub returns : goal.returns
returns c =
    let list = ports_of c.loop-byte.list in
    let none_left = ap (λ rest. list ++ rest) (drop_all c.loop-byte.byte-index c.args.bytes.now c.loop-byte-test.false) ∙ append-nil list in
    record { value = path_reads c.loop-byte.list ∙ ap path_list (sym none_left) ∙ c.loop-byte.invariant }
