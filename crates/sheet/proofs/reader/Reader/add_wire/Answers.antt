use Rattle.std.proofs.Common.{sym}
use Rattle.sheet.proofs.Taking.{stored_took}
use Rattle.sheet.proofs.reader.Reader.add_wire.Goals as goal

pub returns-clause-took : goal.returns-clause-took
returns-clause-took c = λ t start k.
    let ok = sym (c.in_ok-admit.ensures.answer t.wires k.marks) in
    let marks = c.in_ok-admit.ensures.marks t.wires k.marks in
    stored_took c.args.self.now c.store.new.self c.args.table.now c.store.new.table start t
    c.args.wire c.args.line c.args.count k ok (rw c.store.ensures.ports marks) c.store.ensures.boards
    c.store.result c.store.ensures.answer c.store.ensures.stored
