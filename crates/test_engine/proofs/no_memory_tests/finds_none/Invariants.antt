use Rattle.test_engine.proofs.no_memory_tests.finds_none.Given as goal

abbrev pub ghosts-found : goal.ghosts-found
ghosts-found g a = record { name = a.blank.name; parts = a.blank.parts }
