use Rattle.triple_names.proofs.deleting.is_only_neighbour.Given as goal

abbrev pub ghosts-counted_neighbours : goal.ghosts-counted_neighbours
ghosts-counted_neighbours a = record { name = a.blank.name; parts = a.blank.parts }
