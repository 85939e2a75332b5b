-- The words for the states of a wire.
use Rattle.std.specs.Prelude.{ℕ, List, codes}
use Rattle.plan.specs.declared.wire.WireState.{WireState}
use Rattle.plan.specs.declared.wire.WireState.TheVariants.{Whole, OutOnly, BackOnly, Dead}

-- `ok`: both directions work; `out`: only from the first end; `back`: only to it; `dead`: neither
abbrev pub state_word : WireState → List ℕ
state_word Whole = codes "ok"
state_word OutOnly = codes "out"
state_word BackOnly = codes "back"
state_word Dead = codes "dead"
