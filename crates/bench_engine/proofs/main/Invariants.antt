use Rattle.bench_engine.proofs.main.Given as goal

abbrev pub ghosts-solve : goal.ghosts-solve
ghosts-solve a = record { name = a.blank.name; parts = a.blank.parts }
