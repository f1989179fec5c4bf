use Rattle.equation_choice.proofs.chooser.Chooser.search.Given as goal

abbrev pub ghosts-search_counting : goal.ghosts-search_counting
ghosts-search_counting g a = record { name = a.blank.name; parts = a.blank.parts }
