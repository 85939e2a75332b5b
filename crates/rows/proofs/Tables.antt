-- The rows of a table: none at first, and what is true of every list there.
use Rattle.std.proofs.Common.{◌≡◌, ℕ, ◌<◌, ◌≤◌, List, [], length, get_or, replicate, Some, None, Option, refl, ap, arith}
use mathlib.Core.Path.{fun_ext}
use Rattle.std.proofs.lemmas.List.{get_or_past}
use Rattle.rows.specs.Rows.{listed, no_rows}
use Rattle.lists.specs.Views.{ports_in}
use Rattle.rows.specs.Views.{rows_in, rows_of}
use Rattle.lists.specs.declared.PortList.{PortList}
use Rattle.rows.specs.declared.RowTable.{RowTable}
use Rattle.lists.proofs.PortLists.{get_or-replicate_same, length_ports, fit_take}

pub rows_none : (n : ℕ) → rows_in (replicate n None) ≡ no_rows
rows_none n = fun_ext (λ row. ap ports_in (get_or-replicate_same n row None))

-- what every list in a table is: at most 127 ports, each below 8
short_in : (o : Option PortList) → length (listed (ports_in o)) ≤ 127
short_in (Some l) = omega (arith, length_ports l, l.short)
short_in None = omega arith

fit_in : (o : Option PortList) (at : ℕ) → get_or (listed (ports_in o)) at 0 < 8
fit_in (Some l) at = fit_take l.len l.ports l.fit at
fit_in None at = omega arith

pub rows_short : (t : RowTable) (row : ℕ) → length (listed (rows_of t row)) ≤ 127
rows_short t row = short_in (get_or t.lists row None)

pub rows_fit : (t : RowTable) (row at : ℕ) → get_or (listed (rows_of t row)) at 0 < 8
rows_fit t row at = fit_in (get_or t.lists row None) at

-- only rows below 128 have a list
pub rows_few : (t : RowTable) (row : ℕ) → 128 ≤ row → rows_of t row ≡ None
rows_few t row h = ap ports_in (get_or_past t.lists row None (omega (arith, t.wide)))

-- what holds of the empty list, and of the list where there is one
pub listed_both : (o : Option (List ℕ)) (P : List ℕ → Type 0) → P [] → ((list : List ℕ) → o ≡ Some list → P list) → P (listed o)
listed_both (Some list) P none some = some list refl
listed_both None P none some = none
