-- The table of taken ports: what it says of a list of wires.
use Rattle.std.specs.Prelude.{◌≡◌, ℕ, ◌+◌, ◌*◌, ◌<◌, Bool, true, false, List, slice_index_or, slice_set}
use Rattle.plan.specs.Plan.{taken}
use Rattle.plan.specs.declared.wire.End.{End}
use Rattle.plan.specs.declared.wire.Wire.{Wire}

-- where the table has an end
abbrev pub entry_of : End → ℕ
entry_of e = e.board * 8 + e.port

abbrev pub marked : List Bool → Wire → List Bool
marked table w = slice_set (slice_set table (entry_of w.first) true) (entry_of w.second) true

-- each entry tells whether one of the wires has that end
pub record Marks (table : List Bool) (wires : List Wire) : Type 0 where
  pub told : (e : End) → e.board < 256 → e.port < 8 → slice_index_or table (entry_of e) false ≡ taken wires e
