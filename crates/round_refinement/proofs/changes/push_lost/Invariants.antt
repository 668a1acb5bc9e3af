use Rattle.std.proofs.Common.{take}
use Rattle.round_refinement.specs.NeighbourSides.{is_neighbour}
use Rattle.round_refinement.specs.Changes.{LosesSome}
use Rattle.round_refinement.specs.Watches.{IsWatched}
use Rattle.round_refinement.proofs.changes.push_lost.Given as goal

abbrev pub invariant-loop-b : goal.invariant-loop-b
invariant-loop-b g l = record {
  watched : IsWatched (g.G.Digraph.edge l.g) l.block l.watches;
  loses : LosesSome (is_neighbour l.side (g.G.Digraph.edge l.g)) l.block l.n (take l.b-index l.left) l.initial.key.items l.key.items;
}
