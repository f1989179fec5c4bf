use Rattle.value_list_laws.proofs.Witnesses.{runs}
use Rattle.value_list_laws.proofs.witness_laws.runs_of_ones_are_ones.Goals as goal

pub returns : goal.returns
returns c p prime M v V i j k l w (has, reaches) run a b at out within = runs p prime M v V i j k l w has reaches run a b at out within
