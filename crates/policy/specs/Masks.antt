-- Masks of the ports 0 to 7: numbers below 256, with bit p for port p.
use Rattle.std.specs.Prelude.{ℕ, ◌+◌, ◌*◌, ◌/◌, ◌%◌, ◌^◌, Bool, cond, List, [], ◌∷◌, Some, None, Option, ◌==◌}

-- whether the mask has the port
unfoldable pub has : ℕ → ℕ → Bool
has mask port = mask / 2 ^ port % 2 == 1

-- the first of some ports that the mask has; 0 if it has none of them
unfoldable pub first_of : ℕ → List ℕ → ℕ
first_of mask [] = 0
first_of mask (p ∷ ps) = cond (has mask p) p (first_of mask ps)

-- the lowest port of the mask; 0 if it has none
unfoldable pub lowest : ℕ → ℕ
lowest mask = first_of mask (0 ∷ 1 ∷ 2 ∷ 3 ∷ 4 ∷ 5 ∷ 6 ∷ 7 ∷ [])

-- the lowest port of the mask, if it has one
abbrev pub lowest_in : ℕ → Option ℕ
lowest_in mask = cond (mask == 0) None (Some (lowest mask))

-- the lowest preferred port, or the lowest of the others if none is preferred
abbrev pub lowest_of : ℕ → ℕ → ℕ
lowest_of preferred others = cond (preferred == 0) (lowest others) (lowest preferred)

-- the ports of the mask above a port
unfoldable pub above : ℕ → ℕ → ℕ
above port mask = mask / 2 ^ (port + 1) * 2 ^ (port + 1)
