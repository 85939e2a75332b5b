-- A spelling written first in the caller's memory.
use Rattle.std.specs.Prelude.{◌≡◌, ℕ, ◌≤◌, Bool, false, cond, List, ◌++◌, length, take, drop, Some, None, Option, nat_le}

-- memory with bytes in front, and behind them as it was
abbrev pub headed : List ℕ → List ℕ → List ℕ
headed bytes memory = bytes ++ drop (length bytes) memory

-- where memory has room for the widest spelling: how many bytes there are, and memory with them in
-- front; else nothing, and memory as it was
abbrev pub put_first : ℕ → List ℕ → List ℕ → Option ℕ × List ℕ
put_first widest bytes memory =
    cond (nat_le widest (length memory)) (Some (length bytes), headed bytes memory) (None, memory)

-- the same of a row that may have no list, by the spelling that a book chooses
abbrev pub put_row : ℕ → (List ℕ → List ℕ) → Option (List ℕ) → List ℕ → Option ℕ × List ℕ
put_row widest spelling (Some list) memory = put_first widest (spelling list) memory
put_row widest spelling None memory = (None, memory)

-- whether a row can be written: it has a list, and memory has room for the widest spelling
abbrev pub writable : ℕ → Option (List ℕ) → List ℕ → Bool
writable widest (Some list) memory = nat_le widest (length memory)
writable widest None memory = false

-- whichever spelling was chosen: the first n bytes of memory spell the row's list, and all behind them
-- is as it was
pub record Written (widest : ℕ) (spelled : List ℕ → Option (List ℕ)) (row : Option (List ℕ)) (before after : List ℕ) (n : ℕ) : Type 0 where
  pub spelling : spelled (take n after) ≡ row
  pub behind : drop n after ≡ drop n before
  pub bound : n ≤ widest
