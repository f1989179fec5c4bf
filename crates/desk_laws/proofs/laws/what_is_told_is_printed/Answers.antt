use Rattle.desk_laws.proofs.Printed.{told-printed}
use Rattle.desk_laws.proofs.laws.what_is_told_is_printed.Goals as goal

pub returns : goal.returns
returns c = told-printed
