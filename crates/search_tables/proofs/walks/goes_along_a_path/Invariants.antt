use Rattle.search_tables.proofs.walks.goes_along_a_path.Given as goal

abbrev pub ghosts-search : goal.ghosts-search
ghosts-search g a = record { name = a.blank.name; parts = a.blank.parts }
