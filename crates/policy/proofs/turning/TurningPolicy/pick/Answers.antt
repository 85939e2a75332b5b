use Rattle.std.proofs.Common.{length, ap, ◌∙◌, arith}
use Rattle.policy.proofs.Fairness.{fair_after}
use Rattle.policy.proofs.Keeping.{length_kept}
use Rattle.policy.proofs.turning.TurningPolicy.pick.Goals as goal

pub returns : goal.returns
returns c =
    let as_long = ap (λ p. length p.1) c.turn.ensures.answer ∙ length_kept c.args.self.now c.args.offer _ in
    record {
      answer = c.turn.ensures.answer;
      fair = fair_after c.args.self.now c.args.offer c.turn.result c.turn.new.self
          c.turn.ensures.wide (omega arith) c.turn.ensures.answer;
      wide = (c.turn.ensures.wide, as_long ∙ c.turn.ensures.wide);
    }
