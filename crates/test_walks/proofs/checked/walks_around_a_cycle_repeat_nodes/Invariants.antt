use Rattle.test_walks.proofs.checked.walks_around_a_cycle_repeat_nodes.Given as goal

abbrev pub ghosts-check_graph : goal.ghosts-check_graph
ghosts-check_graph g a = record { name = a.blank.name; parts = a.blank.parts }
