use Rattle.rows.proofs.Tables.{rows_none}
use Rattle.rows.proofs.calls.no_lists.Goals as goal

pub returns : goal.returns
returns c = rows_none 128
