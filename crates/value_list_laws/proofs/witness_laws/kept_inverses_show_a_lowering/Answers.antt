use Rattle.value_list_laws.proofs.KeptInverses.{lowered}
use Rattle.value_list_laws.proofs.witness_laws.kept_inverses_show_a_lowering.Goals as goal

pub returns : goal.returns
returns c p prime M square i j here w G d A shows = lowered p prime M square i j here w G d A shows
