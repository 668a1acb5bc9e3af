use Rattle.round_refinement.specs.NumberedShapes.{digraph_shape}
use Rattle.round_refinement.specs.Listing.{IsListed}
use Rattle.round_refinement.specs.Watches.{IsWatched}
use Rattle.round_refinement.specs.Active.{IsOnTheWay}
use Rattle.round_refinement.proofs.active.part_all.Given as goal

abbrev pub invariant-loop-round : goal.invariant-loop-round
invariant-loop-round g l = record {
  way : IsOnTheWay (digraph_shape g.G.Digraph l.g) l.parts.before.items l.parts.block.items l.parts.moved.items;
  listed : IsListed l.parts.block.items l.books.lists;
  watched : IsWatched (g.G.Digraph.edge l.g) l.parts.block.items l.books.keys.watches;
}
