use Rattle.test_levels.proofs.families.sets_of_parents.Given as goal

-- the count of steps that was just opened
abbrev pub ghosts-check_family : goal.ghosts-check_family
ghosts-check_family g a = record { name = a.blank.name; parts = a.blank.parts }
