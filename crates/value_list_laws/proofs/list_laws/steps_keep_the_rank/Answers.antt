use Rattle.value_list_laws.proofs.Runs.{steps-keep}
use Rattle.value_list_laws.proofs.list_laws.steps_keep_the_rank.Goals as goal

pub returns : goal.returns
returns c p M v V i j = steps-keep p M v V i j
