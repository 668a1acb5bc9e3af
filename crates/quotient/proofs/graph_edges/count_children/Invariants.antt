use Rattle.std.proofs.Common.{ℕ, ◌≡◌, ◌+◌, take}
use Rattle.quotient.specs.QuotientNeighbours.{pairs_between, total_support}
use Rattle.quotient.proofs.graph_edges.count_children.Given as goal

abbrev pub invariant-loop-child : goal.invariant-loop-child
invariant-loop-child l = (x y : ℕ) → total_support l.supports.pairs l.pairs.items x y
    ≡ total_support l.fn.supports.pairs l.fn.pairs.items x y + pairs_between l.blocks.block_of l.n (take l.child-index l.children) x y
