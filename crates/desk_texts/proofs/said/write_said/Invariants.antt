use Rattle.desk_texts.proofs.said.write_said.Given as goal

abbrev pub ghosts-put_said-L-Ledger : goal.ghosts-put_said-L-Ledger
ghosts-put_said-L-Ledger g a = record { name = a.searches.name; parts = a.searches.parts }

abbrev pub ghosts-put_said-M-Ledger : goal.ghosts-put_said-M-Ledger
ghosts-put_said-M-Ledger g a = record { name = a.steps.name; parts = a.steps.parts }
