use Rattle.label_graph.proofs.tests.cells_are_used_again.Given as goal

-- the count of steps that was just opened
abbrev pub ghosts-come_and_go_often : goal.ghosts-come_and_go_often
ghosts-come_and_go_often g a = record { name = a.blank.name; parts = a.blank.parts }
