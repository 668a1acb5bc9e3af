use Rattle.graph_steps.proofs.reads.edge_before.Given as goal

abbrev pub ghosts-counted_edge : goal.ghosts-counted_edge
ghosts-counted_edge a = record { name = a.blank.name; parts = a.blank.parts }
