use Rattle.test_texts.proofs.paths.answers_end_the_walks.Given as goal

abbrev pub ghosts-check_small_graph : goal.ghosts-check_small_graph
ghosts-check_small_graph g a = record { name = a.blank.name; parts = a.blank.parts }
