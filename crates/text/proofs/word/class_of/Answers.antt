use Rattle.std.proofs.Common.{rules, tests}
use Rattle.std.proofs.lemmas.Iterator.{YieldsList-from_slice}
use Rattle.std.proofs.lemmas.Iterator.Search.{all_from_yields_List}
use Rattle.text.specs.Text.{digit, letter}
use Rattle.text.proofs.word.class_of.Goals as goal

pub returns-then-all : goal.returns-then-all
returns-then-all c =
    let digits = all_from_yields_List digit _ _ c.all.result c.all.ensures.ran (YieldsList-from_slice c.args.bytes.now cc) (λ x b q k. search (rules, tests)) in
    search rules

pub returns-then-all-2 : goal.returns-then-all-2
returns-then-all-2 c =
    let digits = all_from_yields_List digit _ _ c.all.result c.all.ensures.ran (YieldsList-from_slice c.args.bytes.now cc) (λ x b q k. search (rules, tests)) in
    let letters = all_from_yields_List letter _ _ c.all-else-all.result c.all-else-all.ensures.ran (YieldsList-from_slice c.args.bytes.now cc) (λ x b q k. search (rules, tests)) in
    search rules
