use Rattle.std.proofs.Common.{◌+◌, length, sym, refl, ap, ◌∙◌, rules}
use Rattle.std.proofs.lemmas.Result.{err_from_is_err_and}
use Rattle.sheet.specs.Sheet.{ended, nothing}
use Rattle.sheet.proofs.Reading.{sheet_long, at_start, at_end, at_fault, at_line}
use Rattle.sheet.proofs.RoundTrip.{read_to}
use Rattle.sheet.proofs.read.read_sheet.Goals as goal

pub returns-in_err-check_size : goal.returns-in_err-check_size
returns-in_err-check_size c =
    let p = err_from_is_err_and c.from_residual.result c.from_residual.ensures.1 in
    let long = sheet_long (length c.args.table.now) c.args.sheet.now c.in_err-check_size.field-0.0 (sym c.in_err-check_size.ensures) in
    let all = read_to c.args.sheet.now c.args.table.now c.args.table.now c.from_residual.result nothing (rw (p.1, p.2) long) refl in
    record { answer = all.answer; table = all.table; plan = all.plan }

pub loop-line-init : goal.loop-line-init
loop-line-init c =
    let same = c.into_iter-line-iterator.ensures.into_iter_gives in
    let lines = at_start c.args.sheet.now c.of-line-items.result c.new-reader.result c.args.table.now (sym c.in_ok-check_size.ensures)
    (ap (λ x. x.now) c.of-line-items.ensures.text) c.of-line-items.ensures.at c.of-line-items.ensures.number (c.new-reader.ensures c.args.table.now) in
    rw same (lines, sym c.of-line-items.ensures.number)

pub loop-line-preserved : goal.loop-line-preserved
loop-line-preserved c =
    let u = c.loop-line.invariant.0 in
    let step = c.in-Some.ensures.steps in (
      at_line u c.next.new.self
          c.in-Some.line step c.take_line.result c.take_line.new.self c.take_line.new.table
          (c.take_line.ensures.took u.taken c.args.table.now u.tracks) (search rules),
      sym step.1.1,
    )

pub returns-in_err-take_line : goal.returns-in_err-take_line
returns-in_err-take_line c =
    let u = c.loop-line.invariant.0 in
    let p = err_from_is_err_and c.from_residual-in_err-take_line.result c.from_residual-in_err-take_line.ensures.1 in
    let stop =
    at_fault u c.next.new.self
    c.in-Some.line c.in-Some.ensures.steps c.take_line.result c.take_line.new.self c.take_line.new.table
    (c.take_line.ensures.took u.taken c.args.table.now u.tracks) c.in_err-take_line.field-0.0 (search rules) in
    let all =
    read_to c.args.sheet.now c.args.table.now c.take_line.new.table c.from_residual-in_err-take_line.result u.taken
    (rw (p.1, p.2) stop) (c.in_err-take_line.ensures.refused ∙ u.tracks.records) in
    record { answer = all.answer; table = all.table; plan = all.plan }

pub returns : goal.returns
returns c =
    let u = c.loop-line.invariant.0 in
    let end = at_end u c.next.new.self c.in-None.ensures.steps in
    let finish = c.finish.ensures u.taken c.loop-line.table c.args.table.now u.tracks in
    let number = c.loop-line.invariant.1 ∙ ap (λ l. l.number) (sym c.in-None.ensures.steps.1) in
    let all =
    read_to c.args.sheet.now c.args.table.now c.loop-line.table c.finish.result u.taken
    (end ∙ ap (λ r. (u.taken, r)) (ap (λ n. ended (n + 1) u.taken u.taken.boards) (sym number) ∙ sym finish)) u.tracks.records in
    record { answer = all.answer; table = all.table; plan = all.plan }
