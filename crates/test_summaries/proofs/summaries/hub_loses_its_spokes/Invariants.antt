use Rattle.test_summaries.proofs.summaries.hub_loses_its_spokes.Given as goal

-- the count of steps that was just opened
abbrev pub ghosts-take_spokes : goal.ghosts-take_spokes
ghosts-take_spokes g a = record { name = a.blank.name; parts = a.blank.parts }
