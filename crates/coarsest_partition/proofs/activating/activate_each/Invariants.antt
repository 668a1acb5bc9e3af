use Rattle.std.proofs.Common.{◌≡◌, ℕ, take}
use Rattle.std.specs.Prelude.{◌||◌, ◌&&◌, not}
use Rattle.std.specs.List.{list_any}
use Rattle.graph_spec.specs.Members.{has}
use Rattle.bisim_levels.specs.NeighbourSides.{is_neighbour}
use Rattle.coarsest_partition.specs.SingletonBlocks.{is_alone}
use Rattle.coarsest_partition.proofs.activating.activate_each.Given as goal

abbrev pub invariant-loop-q : goal.invariant-loop-q
invariant-loop-q l = record {
  size : l.active_nodes.size ≡ l.initial.active_nodes.size;
  nodes : (m : ℕ) → has l.active_nodes.nodes m ≡ (has l.initial.active_nodes.nodes m || (list_any (λ q. is_neighbour l.side l.view q m) (take l.q-index l.moved) && not (is_alone l.blocks m)));
}
