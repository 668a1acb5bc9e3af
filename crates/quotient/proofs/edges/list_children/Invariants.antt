use Rattle.std.proofs.Common.{◌≡◌, ◌++◌, take}
use Rattle.bisim_spec.specs.NodeEdges.{edges_from}
use Rattle.quotient.proofs.edges.list_children.Given as goal

abbrev pub invariant-loop-child : goal.invariant-loop-child
invariant-loop-child l = l.edges.items ≡ l.fn.edges.items ++ edges_from l.n (take l.child-index l.children)
