use Rattle.quotient_moves.proofs.tests.a_new_node_moves.Given as goal

abbrev pub ghosts-check_new : goal.ghosts-check_new
ghosts-check_new g a = record { name = a.blank.name; parts = a.blank.parts }
