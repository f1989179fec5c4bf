use Rattle.netlist_reader.proofs.terms.Terms.difference.Given as goal

abbrev pub ghost-are_one : goal.ghost-are_one
ghost-are_one g a = g.names

abbrev pub ghost-node_voltage : goal.ghost-node_voltage
ghost-node_voltage g a = g.names
