use Rattle.picture_run.proofs.drawing.show_index.Given as goal

abbrev pub ghosts-ready : goal.ghosts-ready
ghosts-ready g a = record { name = a.blank.name; parts = a.blank.parts }
