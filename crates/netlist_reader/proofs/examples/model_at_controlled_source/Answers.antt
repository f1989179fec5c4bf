use Rattle.netlist_reader.proofs.TextFacts.{controlled}
use Rattle.netlist_reader.proofs.examples.model_at_controlled_source.Goals as goal

pub returns : goal.returns
returns c = controlled
