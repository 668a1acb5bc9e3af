use Rattle.test_levels.proofs.kept.check_levels.Given as goal

abbrev pub ghosts-graph_of : goal.ghosts-graph_of
ghosts-graph_of g a = record { name = a.blank.name; parts = a.blank.parts }
