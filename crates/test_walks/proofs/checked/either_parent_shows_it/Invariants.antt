use Rattle.test_walks.proofs.checked.either_parent_shows_it.Given as goal

abbrev pub ghosts-check_graph : goal.ghosts-check_graph
ghosts-check_graph g a = record { name = a.blank.name; parts = a.blank.parts }
