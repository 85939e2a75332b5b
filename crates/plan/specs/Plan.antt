-- Which board counts and wires a plan may have: ranges, two different boards, each port at most once.
use Rattle.std.specs.Prelude.{◌≡◌, ℕ, Bool, true, false, cond, ◌&&◌, ◌||◌, List, [], ◌∷◌, ◌++◌, Ok, Err, Result, ◌==◌, nat_le, nat_lt}
use Rattle.plan.specs.declared.fault.PlanFault.{PlanFault}
use Rattle.plan.specs.declared.fault.PlanFault.TheVariants.{OutOfRange, OneBoard, PortTaken}
use Rattle.plan.specs.declared.wire.End.{End}
use Rattle.plan.specs.declared.wire.Wire.{Wire}

-- a plan has 1 to 128 boards
abbrev pub count_fits : ℕ → Bool
count_fits n = nat_le 1 n && nat_le n 128

abbrev pub counted : ℕ → ℕ → Result ℕ PlanFault
counted n place = cond (count_fits n) (Ok n) (Err (OutOfRange place))

-- an end lies on a board of the plan, at a port 0 to 7
abbrev pub end_fits : ℕ → End → Bool
end_fits count e = nat_lt e.board count && nat_lt e.port 8

abbrev pub end_at : ℕ → ℕ → ℕ → ℕ → Result End PlanFault
end_at count board port place =
    let e : End = record { board = board; port = port } in cond (end_fits count e) (Ok e) (Err (OutOfRange place))

abbrev pub same_end : End → End → Bool
same_end d e = d.board == e.board && d.port == e.port

-- whether one of the wires has an end there
abbrev pub taken : List Wire → End → Bool
taken [] e = false
taken (w ∷ ws) e = (same_end w.first e || same_end w.second e) || taken ws e

-- both ends fit, they are on two boards, and neither port has a wire yet
abbrev pub ends_fit : ℕ → Wire → Bool
ends_fit count w = end_fits count w.first && end_fits count w.second

abbrev pub one_board : Wire → Bool
one_board w = w.first.board == w.second.board

abbrev pub port_taken : List Wire → Wire → Bool
port_taken before w = taken before w.first || taken before w.second

-- a wire beside the wires before it: the first fault that fits, or none
abbrev pub admitted : ℕ → List Wire → Wire → ℕ → Result (Unit {0}) PlanFault
admitted count before w place =
    cond (ends_fit count w)
    (cond (one_board w) (Err (OneBoard place)) (cond (port_taken before w) (Err (PortTaken place)) (Ok tt)))
    (Err (OutOfRange place))

-- what a wire has to be beside the wires before it
pub record Fits (count : ℕ) (before : List Wire) (w : Wire) : Type 0 where
  pub inside : ends_fit count w ≡ true
  pub apart : one_board w ≡ false
  pub free : port_taken before w ≡ false

-- each wire of the list fits, beside those before it
abbrev pub AllFit : ℕ → List Wire → List Wire → Type 0
AllFit count before [] = Unit {0}
AllFit count before (w ∷ ws) = Fits count before w × AllFit count (before ++ w ∷ []) ws

-- a good plan: 1 to 128 boards, and every wire fits
pub record Good (count : ℕ) (wires : List Wire) : Type 0 where
  pub boards : count_fits count ≡ true
  pub fits : AllFit count [] wires
