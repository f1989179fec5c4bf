use Rattle.search_tables.proofs.pairs.assert_pivots_over.Given as goal

abbrev pub ghosts-solved : goal.ghosts-solved
ghosts-solved g a = record { name = a.blank.name; parts = a.blank.parts }
