use Rattle.flowsheet_examples.proofs.Computed.{separator_read}
use Rattle.flowsheet_examples.proofs.examples.a_separator_is_read.Goals as goal

pub returns : goal.returns
returns c = separator_read
