use Rattle.ccf_builder.proofs.solution.solve.Given as goal

abbrev pub ghosts-solve_counting : goal.ghosts-solve_counting
ghosts-solve_counting g a = record { name = a.blank.name; parts = a.blank.parts }
