use Rattle.edit_desk.proofs.held.Held.open.Given as goal

abbrev pub ghosts-open_counting : goal.ghosts-open_counting
ghosts-open_counting g a = record { name = a.blank.name; parts = a.blank.parts }
