use Rattle.graph_update.proofs.staging.make.Given as goal

abbrev pub ghosts-drop_node : goal.ghosts-drop_node
ghosts-drop_node a = record { name = a.blank.name; parts = a.blank.parts }
