use Rattle.value_list_laws.proofs.Runs.{run-from, run-to}
use Rattle.value_list_laws.proofs.list_laws.runs_are_tried_at_once.Goals as goal

pub returns : goal.returns
returns c p prime M v V i j k l = (run-to p prime M v V i j k l, run-from p prime M v V i j k l)
