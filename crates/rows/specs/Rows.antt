-- What an address book holds: for each row nothing or a list of ports; and what becomes of it.
use Rattle.std.specs.Prelude.{ℕ, Bool, false, cond, List, [], length, Some, None, Option, Ok, Err, Result, ◌==◌, nat_lt}
use Rattle.lists.specs.Lists.{pushed, same, shared}
use Rattle.lists.specs.declared.fault.ListFault.{ListFault}
use Rattle.rows.specs.declared.fault.RowFault.{RowFault}
use Rattle.rows.specs.declared.fault.RowFault.TheVariants.{InList, NoList, NoRow}

abbrev pub Rows : Type 0
Rows = ℕ → Option (List ℕ)

-- no row has a list
abbrev pub no_rows : Rows
no_rows row = None

-- the rows with a list in one of them, whatever was there
abbrev pub with_row : ℕ → List ℕ → Rows → Rows
with_row row list m r = cond (r == row) (Some list) (m r)

-- a row becomes the empty list, unless the row is above 127
abbrev pub started : ℕ → Rows → Result (Unit {0}) RowFault × Rows
started row m = cond (nat_lt row 128) (Ok tt, with_row row [] m) (Err NoRow, m)

-- a row has the list that a push left, or is as it was where the push was refused
abbrev pub placed : ℕ → Result (Unit {0}) ListFault × List ℕ → Rows → Result (Unit {0}) RowFault × Rows
placed row (Ok _, list) m = (Ok tt, with_row row list m)
placed row (Err fault, list) m = (Err (InList fault), m)

-- a row becomes a source row's list with one port more, unless the row is above 127 or that list is
-- not there or cannot take the port
abbrev pub grown : ℕ → Option (List ℕ) → ℕ → Rows → Result (Unit {0}) RowFault × Rows
grown row (Some list) port m = placed row (pushed port list) m
grown row None port m = (Err NoList, m)

abbrev pub extended : ℕ → ℕ → ℕ → Rows → Result (Unit {0}) RowFault × Rows
extended row source port m = cond (nat_lt row 128) (grown row (m source) port m) (Err NoRow, m)

-- how many ports a row's list has
abbrev pub depth_of : Option (List ℕ) → Option ℕ
depth_of (Some list) = Some (length list)
depth_of None = None

-- how many leading ports the lists of two rows share
abbrev pub shared_of : Option (List ℕ) → Option (List ℕ) → Option ℕ
shared_of (Some a) (Some b) = Some (shared a b)
shared_of (Some a) None = None
shared_of None b = None

-- a row's ports; none where it has no list
abbrev pub listed : Option (List ℕ) → List ℕ
listed (Some list) = list
listed None = []

-- whether there are two lists, and they are the same
abbrev pub both_same : Option (List ℕ) → Option (List ℕ) → Bool
both_same (Some a) (Some b) = same a b
both_same (Some a) None = false
both_same None b = false
