use Rattle.test_updates.proofs.distances.two_edges_on.Given as goal

abbrev pub ghosts-check_link : goal.ghosts-check_link
ghosts-check_link g a = record { name = a.blank.name; parts = a.blank.parts }
