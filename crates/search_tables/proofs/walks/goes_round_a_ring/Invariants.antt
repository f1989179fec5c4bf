use Rattle.search_tables.proofs.walks.goes_round_a_ring.Given as goal

abbrev pub ghosts-search : goal.ghosts-search
ghosts-search g a = record { name = a.blank.name; parts = a.blank.parts }
