use Rattle.test_levels.proofs.levels.children_tell_more_apart.Given as goal

-- the count of steps that was just opened
abbrev pub ghosts-check_children : goal.ghosts-check_children
ghosts-check_children g a = record { name = a.blank.name; parts = a.blank.parts }
