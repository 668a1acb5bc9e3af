use Rattle.test_engine.proofs.check_tests.few_candidates_are_checked.Given as goal

abbrev pub ghosts-chains_and_star : goal.ghosts-chains_and_star
ghosts-chains_and_star g a = record { name = a.blank.name; parts = a.blank.parts }
