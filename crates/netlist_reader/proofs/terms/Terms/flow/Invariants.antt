use Rattle.netlist_reader.proofs.terms.Terms.flow.Given as goal

abbrev pub ghost-are_one : goal.ghost-are_one
ghost-are_one g a = g.names

abbrev pub ghost-node_current : goal.ghost-node_current
ghost-node_current g a = g.names
