use Rattle.tableau_edit_laws.proofs.Leaving.{last_rows}
use Rattle.tableau_edit_laws.proofs.laws.last_rows_take_places.Goals as goal

pub returns : goal.returns
returns c = last_rows
