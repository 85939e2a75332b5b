use Rattle.std.proofs.Common.{◌≡◌, ◌∙◌, ◌*◌, ◌/◌, Bool, true, false, cond, Some, None, length, refl, sym, ap, drop, arith}
use Rattle.std.specs.Bool.{then_some}
use Rattle.lists.specs.declared.PortList.{PortList}
use Rattle.run_book.specs.Spelling.{behind, expanded, fitting}
use Rattle.lists.specs.Views.{ports_in, ports_of}
use Rattle.lists.proofs.PortLists.{short_ports}
use Rattle.std.specs.Option.{option_map}
use Rattle.run_book.specs.RunSpelling.{next_chunk, runs_all, runs_begin, runs_more, runs_stop}
use Rattle.run_book.specs.RunLaws.{cut_same}
use Rattle.run_book.proofs.RunsSpelling.read.Goals as goal

ports_then : (b : Bool) (l : PortList) → ports_in (then_some b l) ≡ cond b (Some (ports_of l)) None
ports_then true l = refl
ports_then false l = refl

pub loop-port-init : goal.loop-port-init
loop-port-init c = runs_begin (ports_of c.new-list.result) c.args.bytes.now c.new-list.ensures

pub returns-in_err-push_run : goal.returns-in_err-push_run
returns-in_err-push_run c =
    let next = next_chunk c.args.bytes.now c.as_chunks.result.0.now c.loop-port.port-index c.as_chunks.ensures.front (omega (arith, c.as_chunks.ensures.front_len)) in
    let none = ap (option_map (λ _. ports_of c.push_run.new.list)) (sym c.in_err-push_run.was) ∙ c.push_run.ensures in
    let value = ap ports_in c.from_residual.ensures
    ∙ runs_stop (ports_of c.loop-port.list) c.args.bytes.now _ _ c.loop-port.port-index next none
    ∙ c.loop-port.invariant in
    record { value = value; cut = λ pieces cut. value ∙ cut_same cut }

pub loop-port-preserved : goal.loop-port-preserved
loop-port-preserved c =
    let next = next_chunk c.args.bytes.now c.as_chunks.result.0.now c.loop-port.port-index c.as_chunks.ensures.front (omega (arith, c.as_chunks.ensures.front_len)) in
    let some = ap (option_map (λ _. ports_of c.push_run.new.list)) (sym c.in_ok-push_run.was) ∙ c.push_run.ensures in
    runs_more (ports_of c.loop-port.list) _ c.args.bytes.now _ _ c.loop-port.port-index next some
    ∙ c.loop-port.invariant

pub returns : goal.returns
returns c =
    let list = c.loop-port.list in
    let all : c.loop-port.port-index ≡ length c.args.bytes.now / 2 = omega (arith, c.as_chunks.ensures.front_len) in
    let value = ap ports_in c.then_some.ensures
    ∙ ports_then _ list
    ∙ ap (λ b. cond b (Some (ports_of list)) None) c.is_empty.ensures
    ∙ runs_all (ports_of list) c.args.bytes.now _ c.as_chunks.ensures.back_len (short_ports list)
    ∙ ap (λ n. fitting (behind (ports_of list) (expanded (drop (2 * n) c.args.bytes.now)))) (sym all)
    ∙ c.loop-port.invariant in
    record { value = value; cut = λ pieces cut. value ∙ cut_same cut }
