use Rattle.netlist_reader.proofs.EachText.{netlist_answered}
use Rattle.netlist_reader.proofs.laws.each_netlist_gives_a_model_or_is_refused.Goals as goal

pub returns : goal.returns
returns c = netlist_answered
