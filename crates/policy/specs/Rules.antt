-- The rules of the three policies: from a state and an offer to the port picked and the next state.
use Rattle.std.specs.Prelude.{ℕ, cond, not, ◌&&◌, List, ◌==◌, bit_and, nat_lt, slice_index_or, slice_set}
use Rattle.policy.specs.Masks.{above, lowest, lowest_of}
use Rattle.policy.specs.declared.offer.Offer.{Offer}

-- the lowest permitted port
abbrev pub lowest_rule : Unit {0} → Offer → ℕ × Unit {0}
lowest_rule s o = (lowest o.permitted, s)

-- the lowest port that is both permitted and free, or the lowest permitted if there is none
abbrev pub free_rule : Unit {0} → Offer → ℕ × Unit {0}
free_rule s o = (lowest_of (bit_and o.permitted o.free) o.permitted, s)

-- the last pick at a board: kept for boards below 128, 7 for the others
abbrev pub last_of : List ℕ → ℕ → ℕ
last_of s board = cond (nat_lt board 128) (slice_index_or s board 7) 7

-- the next port of the mask above the last, or its lowest where none is above
abbrev pub next : ℕ → ℕ → ℕ
next mask last = lowest_of (above last mask) mask

-- the last picks after this one: it is kept for a board below 128, unless no port was permitted
abbrev pub kept : List ℕ → Offer → ℕ → List ℕ
kept s o port = cond (nat_lt o.board 128 && not (o.permitted == 0)) (slice_set s o.board port) s

-- the next permitted port after the last pick at the board
abbrev pub turning_rule : List ℕ → Offer → ℕ × List ℕ
turning_rule s o = let port = next o.permitted (last_of s o.board) in (port, kept s o port)
