use Rattle.row_choice_laws.proofs.RowStages.{rows-begin, rows-take_mate, rows-take_row}
use Rattle.row_choice_laws.proofs.growth_laws.routes_keep_the_rows.Goals as goal

pub returns : goal.returns
returns c p L F R T W = (
  rows-begin p L F R T W,
  λ i G H stage rows. (rows-take_row p L F R T W i G H stage rows, rows-take_mate p L F R T W i G H stage rows),
)
