use Rattle.pathindex_session.proofs.session.Session.ask.Given as goal

-- the count of steps that was just opened
abbrev pub ghosts-ask : goal.ghosts-ask
ghosts-ask a = record { name = a.blank.name; parts = a.blank.parts }
