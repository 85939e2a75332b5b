-- The run spelling: pairs of port and count, each for so many equal ports in a row.
use Rattle.std.specs.Prelude.{ℕ, suc, ◌+◌, ◌<◌, cond, ◌&&◌, List, [], ◌∷◌, ◌++◌, length, replicate, Some, None, Option, ◌==◌, nat_le, nat_lt}

-- a list behind another, if there is one
abbrev pub behind : List ℕ → Option (List ℕ) → Option (List ℕ)
behind front (Some list) = Some (front ++ list)
behind front None = None

-- the ports that pairs stand for; nothing where a byte is left over, a port is above 7 or a count is 0
unfoldable pub expanded : List ℕ → Option (List ℕ)
expanded [] = Some []
expanded (port ∷ []) = None
expanded (port ∷ count ∷ pairs) =
    cond (nat_lt port 8 && nat_lt 0 count) (behind (replicate count port) (expanded pairs)) None

-- a list of at most 127 ports
abbrev pub fitting : Option (List ℕ) → Option (List ℕ)
fitting (Some list) = cond (nat_le (length list) 127) (Some list) None
fitting None = None

-- the list that bytes spell
unfoldable pub run_list : List ℕ → Option (List ℕ)
run_list bytes = fitting (expanded bytes)

-- a list with one run more at its end, where that is a run and there is room for it
abbrev pub with_run : List ℕ → ℕ → ℕ → Option (List ℕ)
with_run list port count =
    cond ((nat_lt port 8 && nat_lt 0 count) && nat_le (length list + count) 127) (Some (list ++ replicate count port)) None

-- one port more in front of pairs: its run grows by one, or begins
unfoldable pub in_front : ℕ → List ℕ → List ℕ
in_front port [] = port ∷ 1 ∷ []
in_front port (first ∷ []) = port ∷ 1 ∷ first ∷ []
in_front port (first ∷ count ∷ pairs) =
    cond (port == first) (port ∷ suc count ∷ pairs) (port ∷ 1 ∷ first ∷ count ∷ pairs)

-- the pairs of a list, as few as can be
unfoldable pub runs : List ℕ → List ℕ
runs [] = []
runs (port ∷ ports) = in_front port (runs ports)

-- the second pairs are the first with one run cut in two
pub data Cut : List ℕ → List ℕ → Type 0 where
  here : (port m n : ℕ) (pairs : List ℕ) → 0 < m → 0 < n → Cut (port ∷ (m + n) ∷ pairs) (port ∷ m ∷ port ∷ n ∷ pairs)
  later : (port count : ℕ) {whole pieces : List ℕ} → Cut whole pieces → Cut (port ∷ count ∷ whole) (port ∷ count ∷ pieces)
