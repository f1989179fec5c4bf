use Rattle.desk_laws.proofs.OneTold.{told-one}
use Rattle.desk_laws.proofs.laws.one_thing_is_told.Goals as goal

pub returns : goal.returns
returns c = told-one
