use Rattle.netlist_reader.proofs.ModelLaws.{text_gives_one}
use Rattle.netlist_reader.proofs.laws.a_netlist_gives_one_model.Goals as goal

pub returns : goal.returns
returns c = text_gives_one
