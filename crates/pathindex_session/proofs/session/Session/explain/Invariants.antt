use Rattle.pathindex_session.proofs.session.Session.explain.Given as goal

-- the count of steps that was just opened
abbrev pub ghosts-explain : goal.ghosts-explain
ghosts-explain a = record { name = a.blank.name; parts = a.blank.parts }
