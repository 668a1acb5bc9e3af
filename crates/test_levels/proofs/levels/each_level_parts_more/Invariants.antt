use Rattle.test_levels.proofs.levels.each_level_parts_more.Given as goal

-- the count of steps that was just opened
abbrev pub ghosts-check_chains : goal.ghosts-check_chains
ghosts-check_chains g a = record { name = a.blank.name; parts = a.blank.parts }
