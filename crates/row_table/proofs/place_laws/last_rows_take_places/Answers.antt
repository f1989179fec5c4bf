use Rattle.row_table.proofs.PlaceEdits.{last-takes, last-takes-whole}
use Rattle.row_table.proofs.place_laws.last_rows_take_places.Goals as goal

pub returns : goal.returns
returns c = λ m n all s k placed kl. (last-takes m n all s k placed kl, last-takes-whole m n all s k placed kl)
