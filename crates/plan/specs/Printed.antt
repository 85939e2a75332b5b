-- What is printed of an end, of a wire and of a refusal.
use Rattle.std.specs.Prelude.{ℕ, List, ◌++◌, codes}
use Rattle.std.specs.Fmt.{decimal}
use Rattle.plan.specs.States.{state_word}
use Rattle.plan.specs.declared.fault.Refusal.{Refusal}
use Rattle.plan.specs.declared.wire.End.{End}
use Rattle.plan.specs.declared.wire.Wire.{Wire}

-- `board 4 port 0`
abbrev pub end_text : End → List ℕ
end_text e = codes "board " ++ decimal e.board ++ codes " port " ++ decimal e.port

-- `board 4 port 0, board 0 port 1, ok`
abbrev pub wire_text : Wire → List ℕ
wire_text w = end_text w.first ++ codes ", " ++ end_text w.second ++ codes ", " ++ state_word w.state

-- `layer 1, number 11, place 3`
abbrev pub refusal_text : Refusal → List ℕ
refusal_text r = codes "layer " ++ decimal r.layer ++ codes ", number " ++ decimal r.number ++ codes ", place " ++ decimal r.place
