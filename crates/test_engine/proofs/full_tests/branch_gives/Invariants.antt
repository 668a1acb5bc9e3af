use Rattle.test_engine.proofs.full_tests.branch_gives.Given as goal

abbrev pub ghosts-branch_counted : goal.ghosts-branch_counted
ghosts-branch_counted g a = record { name = a.blank.name; parts = a.blank.parts }
