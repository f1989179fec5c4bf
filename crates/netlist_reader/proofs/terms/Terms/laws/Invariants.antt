use Rattle.netlist_reader.proofs.terms.Terms.laws.Given as goal

abbrev pub ghost-constant : goal.ghost-constant
ghost-constant g a = g.names
