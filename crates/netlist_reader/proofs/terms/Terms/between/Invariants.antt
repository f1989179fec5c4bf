use Rattle.netlist_reader.proofs.terms.Terms.between.Given as goal

abbrev pub ghost-voltage : goal.ghost-voltage
ghost-voltage g a = g.names

abbrev pub ghost-flow : goal.ghost-flow
ghost-flow g a = g.names
