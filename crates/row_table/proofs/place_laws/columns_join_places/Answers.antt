use Rattle.std.proofs.Common.{arith}
use Rattle.row_table.proofs.PlaceEdits.{column-joins, column-joins-new, column-joins-whole}
use Rattle.row_table.proofs.place_laws.columns_join_places.Goals as goal

pub returns : goal.returns
returns c m n all s a v placed vl = (
  column-joins m n all s v placed (omega arith),
  column-joins-whole m n all s v placed (omega arith) a,
  column-joins-new m n all s v placed (omega arith) a,
)
