use Rattle.coarsest_partition.proofs.tests.one_edge.Given as goal

-- the count of steps that was just opened
abbrev pub ghosts-check_one_edge : goal.ghosts-check_one_edge
ghosts-check_one_edge g a = record { name = a.blank.name; parts = a.blank.parts }
