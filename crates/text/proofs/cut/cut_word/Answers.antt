use Rattle.std.proofs.Common.{sym, ap, ◌∙◌, arith}
use Rattle.std.proofs.lemmas.List.Sums.{prefix_len-le-length}
use Rattle.text.specs.Text.{space, words}
use Rattle.text.proofs.Splits.{word_next, words_none}
use Rattle.text.proofs.cut.cut_word.Goals as goal

pub returns-then-skipped-left : goal.returns-then-skipped-left
returns-then-skipped-left c =
    ap words (sym c.part_of-left.ensures)
    ∙ words_none c.part_of-left.result.now (omega (arith, prefix_len-le-length space c.part_of-left.result.now))

pub overflow_add-result : goal.overflow_add-result
overflow_add-result c =
    let next =
    word_next c.args.text.now c.part_of-left.result.now c.args.at c.args.end
    c.spaces-skipped.result c.until-size.result
    c.part_of-left.ensures c.spaces-skipped.ensures c.if-skipped-left.false c.until-size.ensures in
    omega (arith, next.bound)

pub returns : goal.returns
returns c =
    let next =
    word_next c.args.text.now c.part_of-left.result.now c.args.at c.args.end
    c.spaces-skipped.result c.until-size.result
    c.part_of-left.ensures c.spaces-skipped.ensures c.if-skipped-left.false c.until-size.ensures in
    record { word = next.word; long = omega (arith, next.long) }
