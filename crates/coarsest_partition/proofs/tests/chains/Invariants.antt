use Rattle.coarsest_partition.proofs.tests.chains.Given as goal

-- the count of steps that was just opened
abbrev pub ghosts-check_both : goal.ghosts-check_both
ghosts-check_both g a = record { name = a.blank.name; parts = a.blank.parts }
