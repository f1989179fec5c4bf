use Rattle.netlist_reader.proofs.terms.Terms.voltage.Given as goal

abbrev pub ghost-put : goal.ghost-put
ghost-put g a = g.names

abbrev pub ghost-difference : goal.ghost-difference
ghost-difference g a = g.names
