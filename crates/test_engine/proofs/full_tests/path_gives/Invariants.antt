use Rattle.test_engine.proofs.full_tests.path_gives.Given as goal

abbrev pub ghosts-path_counted : goal.ghosts-path_counted
ghosts-path_counted g a = record { name = a.blank.name; parts = a.blank.parts }
