use Rattle.graph_load.proofs.loader.Loader.child.Given as goal

abbrev pub ghosts-some_child : goal.ghosts-some_child
ghosts-some_child a = record { name = a.blank.name; parts = a.blank.parts }
