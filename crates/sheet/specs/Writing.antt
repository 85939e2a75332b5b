-- A plan written as a sheet: its `boards` line, then a `wire` line for each wire.
use Rattle.std.specs.Prelude.{ℕ, List, [], ◌∷◌, map, codes}
use Rattle.plan.specs.States.{state_word}
use Rattle.plan.specs.declared.wire.Wire.{Wire}
use Rattle.text.specs.Writing.{digits, ended_lines, spaced}

abbrev pub boards_words : ℕ → List (List ℕ)
boards_words count = codes "boards" ∷ digits count ∷ []

abbrev pub wire_words : Wire → List (List ℕ)
wire_words w =
    codes "wire" ∷ digits w.first.board ∷ digits w.first.port ∷ digits w.second.board ∷ digits w.second.port
    ∷ state_word w.state ∷ []

abbrev pub wire_line : Wire → List ℕ
wire_line w = spaced (wire_words w)

-- the sheet of a plan
abbrev pub written : ℕ → List Wire → List ℕ
written count wires = ended_lines (spaced (boards_words count) ∷ map wire_line wires)
