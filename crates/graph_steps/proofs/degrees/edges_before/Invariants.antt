use Rattle.graph_steps.proofs.degrees.edges_before.Given as goal

abbrev pub ghosts-counted_edges : goal.ghosts-counted_edges
ghosts-counted_edges a = record { name = a.blank.name; parts = a.blank.parts }
