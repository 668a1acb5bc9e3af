use Rattle.test_graphs.proofs.tests.removals.Given as goal

-- the count of steps that was just opened
abbrev pub ghosts-take_apart : goal.ghosts-take_apart
ghosts-take_apart g a = record { name = a.blank.name; parts = a.blank.parts }
