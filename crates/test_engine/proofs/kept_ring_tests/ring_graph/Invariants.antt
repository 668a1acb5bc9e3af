use Rattle.test_engine.proofs.kept_ring_tests.ring_graph.Given as goal

abbrev pub ghosts-graph_of : goal.ghosts-graph_of
ghosts-graph_of a = record { name = a.blank.name; parts = a.blank.parts }
