use Rattle.netlist_reader.proofs.terms.Terms.symbols.Given as goal

abbrev pub ghost-put : goal.ghost-put
ghost-put g a = g.names
