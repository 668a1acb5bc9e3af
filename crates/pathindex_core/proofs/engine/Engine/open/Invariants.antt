use Rattle.pathindex_core.proofs.engine.Engine.open.Given as goal

abbrev pub ghosts-build_boxes : goal.ghosts-build_boxes
ghosts-build_boxes g a = record { name = a.blank.name; parts = a.blank.parts }
