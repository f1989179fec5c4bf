use Rattle.netlist_reader.proofs.DeviceCounts.{netlist-names-few}
use Rattle.text_lengths.proofs.laws.netlists_have_few_names.Goals as goal

pub returns : goal.returns
returns c = netlist-names-few
