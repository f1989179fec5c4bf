use Rattle.bench_update.proofs.edits.tell.Given as goal

abbrev pub ghosts-edited-L-Ledger : goal.ghosts-edited-L-Ledger
ghosts-edited-L-Ledger g a = record { name = a.searches.name; parts = a.searches.parts }

abbrev pub ghosts-edited-M-Ledger : goal.ghosts-edited-M-Ledger
ghosts-edited-M-Ledger g a = record { name = a.steps.name; parts = a.steps.parts }
