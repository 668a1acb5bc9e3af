use Rattle.test_engine.proofs.ring_tests.rings_come_apart.Given as goal

abbrev pub ghosts-graph_of : goal.ghosts-graph_of
ghosts-graph_of g a = record { name = a.blank.name; parts = a.blank.parts }
