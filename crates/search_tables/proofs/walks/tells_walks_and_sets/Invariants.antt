use Rattle.search_tables.proofs.walks.tells_walks_and_sets.Given as goal

abbrev pub ghosts-walk_then_reached : goal.ghosts-walk_then_reached
ghosts-walk_then_reached g a = record { name = a.blank.name; parts = a.blank.parts }
