use Rattle.row_table.proofs.PlaceEdits.{column-leaves, column-leaves-whole}
use Rattle.row_table.proofs.place_laws.columns_leave_places.Goals as goal

pub returns : goal.returns
returns c m n all s a b v placed vl free moved stays = (
  column-leaves m n all s v placed vl free,
  column-leaves-whole m n all s v placed vl free a b moved stays,
)
