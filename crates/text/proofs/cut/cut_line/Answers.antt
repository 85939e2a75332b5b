use Rattle.std.proofs.Common.{arith}
use Rattle.text.proofs.Splits.{line_bound, line_cut, lines_none}
use Rattle.text.proofs.cut.cut_line.Goals as goal

pub returns-then-start-text : goal.returns-then-start-text
returns-then-start-text c = lines_none c.args.text.now c.args.start (omega arith)

pub overflow_add-end : goal.overflow_add-end
overflow_add-end c = omega (arith, line_bound c.args.text.now c.args.start c.until.result (omega arith) c.until.ensures)

pub overflow_add-end-2 : goal.overflow_add-end-2
overflow_add-end-2 c = omega (arith, line_bound c.args.text.now c.args.start c.until.result (omega arith) c.until.ensures)

pub returns : goal.returns
returns c = line_cut c.args.text.now c.args.start c.until.result c.min.result (omega arith) c.until.ensures c.min.ensures
