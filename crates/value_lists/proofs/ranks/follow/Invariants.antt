use Rattle.value_lists.proofs.ranks.follow.Given as goal

abbrev pub ghosts-follow_counting-L-Ledger : goal.ghosts-follow_counting-L-Ledger
ghosts-follow_counting-L-Ledger g a = record { name = a.searches.name; parts = a.searches.parts }

abbrev pub ghosts-follow_counting-M-Ledger : goal.ghosts-follow_counting-M-Ledger
ghosts-follow_counting-M-Ledger g a = record { name = a.steps.name; parts = a.steps.parts }
