use Rattle.std.proofs.Common.{ap, length, nat_eq, arith, rules, tests}
use Rattle.std.proofs.lemmas.List.{length-append}
use Rattle.std.proofs.lemmas.List.Sorted.{answers_always}
use Rattle.std.specs.Slice.Iter.{chunk_by_rest}
use Rattle.run_book.specs.RunSpelling.{runs_ahead, write_behind, write_end, write_more}
use Rattle.run_book.proofs.write_runs.Goals as goal

pub loop-run-preserved : goal.loop-run-preserved
loop-run-preserved c =
    let steps = c.in-Some.ensures.steps in
    let parts = steps.2 nat_eq (answers_always _ _ _ (λ f a r g k. search (rules, tests))) in
    let rest = chunk_by_rest c.next.new.self in
    let ahead = runs_ahead (chunk_by_rest c.loop-run.run-iterator) c.in-Some.run'.now rest steps.0 steps.1 parts.1 in
    let less = ap length steps.0 in
    let sum = length-append c.in-Some.run'.now rest in
    let some = steps.1 in
    record {
      can_next = search rules;
      is_finite = search rules;
      room = omega arith;
      front = write_more c.args.ports.now c.loop-run.memory (chunk_by_rest c.loop-run.run-iterator) rest c.loop-run.size _ _ (omega arith) ahead c.loop-run.invariant.front;
      back = write_behind c.args.ports.now c.loop-run.memory c.args.memory.now c.loop-run.size _ _ (omega arith) c.loop-run.invariant.back;
    }

pub returns : goal.returns
returns c =
    let w = write_end c.args.ports.now c.loop-run.memory c.args.memory.now (chunk_by_rest c.loop-run.run-iterator) c.loop-run.size c.in-None.ensures.steps.0 (omega arith) c.loop-run.invariant.front c.loop-run.invariant.back in
    record { size = w.0; memory = w.1 }
