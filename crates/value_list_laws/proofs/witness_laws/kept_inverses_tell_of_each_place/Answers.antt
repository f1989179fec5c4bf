use Rattle.value_list_laws.proofs.Told.{told}
use Rattle.value_list_laws.proofs.witness_laws.kept_inverses_tell_of_each_place.Goals as goal

pub returns : goal.returns
returns c p prime M square i j here w G inv d to_one tie = told p prime M square i j here w G inv d to_one tie
