use Rattle.std.proofs.Common.{arith}
use Rattle.row_table.proofs.PlaceEdits.{row-joins, row-joins-unit, row-joins-whole}
use Rattle.row_table.proofs.place_laws.rows_join_places.Goals as goal

pub returns : goal.returns
returns c m n all s a v placed vl = (
  row-joins m n all s v placed (omega arith),
  row-joins-whole m n all s v placed (omega arith) a,
  row-joins-unit m n all s v placed (omega arith) a,
)
