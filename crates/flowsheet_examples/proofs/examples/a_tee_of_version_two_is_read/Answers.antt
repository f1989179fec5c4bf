use Rattle.flowsheet_examples.proofs.Computed.{one_fraction, tee_read}
use Rattle.flowsheet_examples.proofs.examples.a_tee_of_version_two_is_read.Goals as goal

pub returns-clause-read : goal.returns-clause-read
returns-clause-read c = tee_read

pub returns-clause-one_fraction : goal.returns-clause-one_fraction
returns-clause-one_fraction c = one_fraction
