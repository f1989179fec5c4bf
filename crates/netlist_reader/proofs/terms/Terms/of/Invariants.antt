use Rattle.netlist_reader.proofs.terms.Terms.of.Given as goal

abbrev pub ghost-device : goal.ghost-device
ghost-device g a = g.names
