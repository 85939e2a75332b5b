-- What two spellings look like to a book.
use Rattle.std.specs.Prelude.{ℕ, Bool, true, false, not, ◌&&◌, List, is_some, Option}
use Rattle.rows.specs.Rows.{both_same}

-- whether two answers are the same
abbrev pub agree : Bool → Bool → Bool
agree true b = b
agree false b = not b

-- what two byte strings spell gets the same answers: whether it is a list, and whether it is the row's
abbrev pub alike_to : Option (List ℕ) → Option (List ℕ) → Option (List ℕ) → Bool
alike_to row one other = agree (is_some one) (is_some other) && agree (both_same one row) (both_same other row)
