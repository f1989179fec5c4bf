use Rattle.value_list_laws.proofs.Witnesses.{changed-ones}
use Rattle.value_list_laws.proofs.witness_laws.changed_witnesses_show_a_one.Goals as goal

pub returns : goal.returns
returns c p prime M v V i j here w has reaches = changed-ones p prime M v V i j here w has reaches
