use Rattle.test_engine.proofs.one_tests.makes.Given as goal

abbrev pub ghosts-stages : goal.ghosts-stages
ghosts-stages a = record { name = a.blank.name; parts = a.blank.parts }
