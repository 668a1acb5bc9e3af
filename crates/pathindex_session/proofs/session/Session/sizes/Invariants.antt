use Rattle.pathindex_session.proofs.session.Session.sizes.Given as goal

-- the count of steps that was just opened
abbrev pub ghosts-measure : goal.ghosts-measure
ghosts-measure a = record { name = a.blank.name; parts = a.blank.parts }
