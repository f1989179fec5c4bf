use Rattle.netlist_reader.proofs.terms.Terms.device.Given as goal

abbrev pub ghost-between : goal.ghost-between
ghost-between g a = g.names

abbrev pub ghost-symbols : goal.ghost-symbols
ghost-symbols g a = g.names

abbrev pub ghost-put : goal.ghost-put
ghost-put g a = g.names

abbrev pub ghost-voltage : goal.ghost-voltage
ghost-voltage g a = g.names

abbrev pub ghost-flow : goal.ghost-flow
ghost-flow g a = g.names

abbrev pub ghost-difference : goal.ghost-difference
ghost-difference g a = g.names

abbrev pub ghost-laws : goal.ghost-laws
ghost-laws g a = g.names
