use Rattle.index_picture.proofs.lone.lone_blocks.Given as goal

abbrev pub ghosts-summary_of : goal.ghosts-summary_of
ghosts-summary_of a = record { name = a.blank.name; parts = a.blank.parts }
