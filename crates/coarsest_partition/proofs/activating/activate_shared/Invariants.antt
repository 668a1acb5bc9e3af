use Rattle.std.proofs.Common.{◌≡◌, ℕ, take}
use Rattle.std.specs.Prelude.{◌||◌, ◌&&◌, not}
use Rattle.graph_spec.specs.Members.{has}
use Rattle.coarsest_partition.specs.SingletonBlocks.{is_alone}
use Rattle.coarsest_partition.proofs.activating.activate_shared.Given as goal

abbrev pub invariant-loop-n : goal.invariant-loop-n
invariant-loop-n l = record {
  size : l.active_nodes.size ≡ l.initial.active_nodes.size;
  nodes : (m : ℕ) → has l.active_nodes.nodes m ≡ (has l.initial.active_nodes.nodes m || (has (take l.n-index l.nodes) m && not (is_alone l.blocks m)));
}
