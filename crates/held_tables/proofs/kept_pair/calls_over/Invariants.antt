use Rattle.held_tables.proofs.kept_pair.calls_over.Given as goal

abbrev pub ghosts-calls-L-Ledger : goal.ghosts-calls-L-Ledger
ghosts-calls-L-Ledger g a = record { name = a.searches.name; parts = a.searches.parts }

abbrev pub ghosts-calls-M-Ledger : goal.ghosts-calls-M-Ledger
ghosts-calls-M-Ledger g a = record { name = a.steps.name; parts = a.steps.parts }
