use Rattle.graph_load.proofs.loader.Loader.parent.Given as goal

abbrev pub ghosts-some_parent : goal.ghosts-some_parent
ghosts-some_parent a = record { name = a.blank.name; parts = a.blank.parts }
