use Rattle.test_updates.proofs.changes.changes_are_shown_and_made.Given as goal

-- the count of steps that was just opened
abbrev pub ghosts-check_shown : goal.ghosts-check_shown
ghosts-check_shown g a = record { name = a.blank.name; parts = a.blank.parts }
