use Rattle.search_tables.proofs.pairs.assert_bared_over.Given as goal

abbrev pub ghosts-solved_on_bared : goal.ghosts-solved_on_bared
ghosts-solved_on_bared g a = record { name = a.blank.name; parts = a.blank.parts }
