use Rattle.std.proofs.Common.{◌≡◌, ◌++◌, take}
use Rattle.bisim_spec.specs.NodeEdges.{edges_from}
use Rattle.graph_effects.proofs.edges.lose_children.Given as goal

abbrev pub invariant-loop-i : goal.invariant-loop-i
invariant-loop-i l = l.lost.items ≡ l.initial.lost.items ++ edges_from l.u (take l.i l.children)
