use Rattle.std.proofs.Common.{◌≡◌, MatchOption, sym, ap, ◌∙◌, subst}
use Rattle.lists.specs.Views.{ports_at, ports_of}
use Rattle.lists.proofs.PortLists.{fit_ports, short_ports}
use Rattle.book.specs.Memory.{Written}
use Rattle.book.proofs.Written.{written_first}
use Rattle.book.proofs.spelled.SpelledBookBook.write.Goals as goal

pub returns-clause-memory : goal.returns-clause-memory
returns-clause-memory g c =
    let laws = g.met.S.Spelling in
    let l = c.in_ok-get.field-0.now in
    let read = laws.read_back (ports_of l) (short_ports l) (fit_ports l) in
    let same = ap ports_at (sym c.in_ok-get.was) ∙ c.get.ensures in
    subst (λ row. MatchOption c.write.result (c.write.new.memory ≡ c.args.memory.now) (Written g.S.Spelling.WIDEST g.S.Spelling.spelled row c.args.memory.now c.write.new.memory)) same
    (written_first _ _ (ports_of l) _ _ _ _ c.write.ensures.exact read (laws.narrow _ _ read))
