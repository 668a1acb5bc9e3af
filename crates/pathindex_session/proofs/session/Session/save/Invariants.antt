use Rattle.pathindex_session.proofs.session.Session.save.Given as goal

-- the count of steps that was just opened
abbrev pub ghosts-save : goal.ghosts-save
ghosts-save a = record { name = a.blank.name; parts = a.blank.parts }
