use Rattle.test_levels.proofs.families.loops_stay_together.Given as goal

-- the count of steps that was just opened
abbrev pub ghosts-check_loops : goal.ghosts-check_loops
ghosts-check_loops g a = record { name = a.blank.name; parts = a.blank.parts }
