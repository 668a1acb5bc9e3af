use Rattle.test_summaries.proofs.summaries.small_tree.Given as goal

-- the count of steps that was just opened
abbrev pub ghosts-read_tree : goal.ghosts-read_tree
ghosts-read_tree g a = record { name = a.blank.name; parts = a.blank.parts }
