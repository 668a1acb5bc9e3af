use Rattle.std.proofs.Common.{◌≡◌, ℕ, take}
use Rattle.std.specs.Prelude.{◌||◌}
use Rattle.std.specs.List.{list_any}
use Rattle.graph_spec.specs.Members.{has}
use Rattle.bisim_levels.specs.NeighbourSides.{is_neighbour}
use Rattle.block_splitting.proofs.reaching.add_around.Given as goal

abbrev pub invariant-loop-q : goal.invariant-loop-q
invariant-loop-q l = record {
  size : l.set.size ≡ l.initial.set.size;
  nodes : (m : ℕ) → has l.set.nodes m ≡ (has l.initial.set.nodes m || list_any (λ q. is_neighbour l.side l.view q m) (take l.q-index l.nodes));
}
