use Rattle.test_graphs.proofs.tests.small_graph.Given as goal

-- the count of steps that was just opened
abbrev pub ghosts-read_small_graph : goal.ghosts-read_small_graph
ghosts-read_small_graph g a = record { name = a.blank.name; parts = a.blank.parts }
