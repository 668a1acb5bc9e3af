use Rattle.pathindex_session.proofs.session.Session.extents.Given as goal

-- the count of steps that was just opened
abbrev pub ghosts-list : goal.ghosts-list
ghosts-list a = record { name = a.blank.name; parts = a.blank.parts }
