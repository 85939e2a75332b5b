-- What the struct stands for: the rows of a table.
use Rattle.std.specs.Prelude.{List, None, Option, slice_index_or}
use Rattle.lists.specs.Views.{ports_in}
use Rattle.lists.specs.declared.PortList.{PortList}
use Rattle.rows.specs.Rows.{Rows}
use Rattle.rows.specs.declared.RowTable.{RowTable}

abbrev pub rows_in : List (Option PortList) → Rows
rows_in lists row = ports_in (slice_index_or lists row None)

abbrev pub rows_of : RowTable → Rows
rows_of t = rows_in t.lists
