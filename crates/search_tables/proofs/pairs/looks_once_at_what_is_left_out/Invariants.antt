use Rattle.search_tables.proofs.pairs.looks_once_at_what_is_left_out.Given as goal

abbrev pub ghosts-looks_of_two_runs : goal.ghosts-looks_of_two_runs
ghosts-looks_of_two_runs g a = record { name = a.blank.name; parts = a.blank.parts }
