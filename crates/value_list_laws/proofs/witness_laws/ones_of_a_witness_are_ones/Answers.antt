use Rattle.value_list_laws.proofs.Witnesses.{ones}
use Rattle.value_list_laws.proofs.witness_laws.ones_of_a_witness_are_ones.Goals as goal

pub returns : goal.returns
returns c p prime M v V i j here w (has, reaches) one = ones p prime M v V i j here w has reaches one
