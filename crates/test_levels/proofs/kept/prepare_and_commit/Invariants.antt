use Rattle.test_levels.proofs.kept.prepare_and_commit.Given as goal

abbrev pub ghosts-prepare : goal.ghosts-prepare
ghosts-prepare g a = record { name = a.blank.name; parts = a.blank.parts }
