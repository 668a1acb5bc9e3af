use Rattle.test_engine.proofs.one_tests.is_built.Given as goal

abbrev pub ghosts-builds : goal.ghosts-builds
ghosts-builds a = record { name = a.blank.name; parts = a.blank.parts }
