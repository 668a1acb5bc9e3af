use Rattle.test_summaries.proofs.reports.blocks_are_listed.Given as goal

-- the count of steps that was just opened
abbrev pub ghosts-check_rows : goal.ghosts-check_rows
ghosts-check_rows g a = record { name = a.blank.name; parts = a.blank.parts }
