use Rattle.test_engine.proofs.kept_ring_tests.shows.Given as goal

abbrev pub ghosts-is_lawful_in : goal.ghosts-is_lawful_in
ghosts-is_lawful_in a = record { name = a.blank.name; parts = a.blank.parts }
