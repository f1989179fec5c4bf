use Rattle.value_list_laws.proofs.Witnesses.{changed-has, go_on}
use Rattle.value_list_laws.proofs.witness_laws.witnesses_go_on_with_two.Goals as goal

pub returns : goal.returns
returns c p prime M v V i j here two w (has, reaches) = (changed-has p prime M v V i j 2 w has, go_on p prime M v V i j here two w has reaches)
