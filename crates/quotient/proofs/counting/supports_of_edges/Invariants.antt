use Rattle.std.proofs.Common.{ℕ, ◌≡◌, ◌+◌, take}
use Rattle.bisim_spec.specs.Supports.{support}
use Rattle.bisim_spec.specs.IndexGraphs.{support_at}
use Rattle.quotient.specs.QuotientNeighbours.{pairs_with}
use Rattle.quotient.proofs.counting.supports_of_edges.Given as goal

abbrev pub invariant-loop-from : goal.invariant-loop-from
invariant-loop-from l =
    (x y : ℕ) → support_at l.supports.pairs x y + pairs_with l.pairs.items x y ≡ support (take l.from-index l.edges) l.blocks.block_of x y
