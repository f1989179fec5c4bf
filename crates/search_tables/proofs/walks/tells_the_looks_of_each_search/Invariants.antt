use Rattle.search_tables.proofs.walks.tells_the_looks_of_each_search.Given as goal

abbrev pub ghosts-looks_in_turn : goal.ghosts-looks_in_turn
ghosts-looks_in_turn g a = record { name = a.blank.name; parts = a.blank.parts }
