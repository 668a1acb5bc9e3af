use Rattle.test_levels.proofs.kept.check_fresh.Given as goal

abbrev pub ghosts-built : goal.ghosts-built
ghosts-built g a = record { name = a.blank.name; parts = a.blank.parts }
