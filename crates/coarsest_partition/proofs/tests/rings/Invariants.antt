use Rattle.coarsest_partition.proofs.tests.rings.Given as goal

-- the count of steps that was just opened
abbrev pub ghosts-check_rings : goal.ghosts-check_rings
ghosts-check_rings g a = record { name = a.blank.name; parts = a.blank.parts }
