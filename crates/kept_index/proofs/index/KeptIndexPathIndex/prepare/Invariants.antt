use Rattle.kept_index.proofs.index.KeptIndexPathIndex.prepare.Given as goal

abbrev pub ghosts-counted_prepare : goal.ghosts-counted_prepare
ghosts-counted_prepare g a = record { name = a.blank.name; parts = a.blank.parts }
