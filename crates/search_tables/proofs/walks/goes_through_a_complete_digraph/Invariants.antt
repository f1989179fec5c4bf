use Rattle.search_tables.proofs.walks.goes_through_a_complete_digraph.Given as goal

abbrev pub ghosts-search : goal.ghosts-search
ghosts-search g a = record { name = a.blank.name; parts = a.blank.parts }
