-- What is printed of the counts of a sheet.
use Rattle.std.specs.Prelude.{ℕ, List, ◌++◌, codes}
use Rattle.std.specs.Fmt.{decimal}
use Rattle.sheet.specs.declared.counts.Counts.{Counts}

-- `5 boards, 5 wires`
abbrev pub counts_text : Counts → List ℕ
counts_text c = decimal c.boards ++ codes " boards, " ++ decimal c.wires ++ codes " wires"
