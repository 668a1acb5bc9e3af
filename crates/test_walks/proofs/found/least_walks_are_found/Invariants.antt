use Rattle.test_walks.proofs.found.least_walks_are_found.Given as goal

abbrev pub ghosts-check_graphs : goal.ghosts-check_graphs
ghosts-check_graphs g a = record { name = a.blank.name; parts = a.blank.parts }
