use Rattle.row_table.proofs.PlaceEdits.{row-leaves, row-leaves-whole}
use Rattle.row_table.proofs.place_laws.rows_leave_places.Goals as goal

pub returns : goal.returns
returns c m n all s a k placed kl = (row-leaves m n all s k placed kl, row-leaves-whole m n all s k placed kl a)
