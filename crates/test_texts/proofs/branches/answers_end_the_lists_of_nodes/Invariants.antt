use Rattle.test_texts.proofs.branches.answers_end_the_lists_of_nodes.Given as goal

abbrev pub ghosts-check_small_graph : goal.ghosts-check_small_graph
ghosts-check_small_graph g a = record { name = a.blank.name; parts = a.blank.parts }
