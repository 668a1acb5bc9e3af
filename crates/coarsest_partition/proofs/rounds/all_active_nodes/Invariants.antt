use Rattle.std.proofs.Common.{◌≡◌, ◌<◌, ℕ, length, true, IsSome}
use Rattle.graph_spec.specs.Members.{has, at}
use Rattle.coarsest_partition.proofs.rounds.all_active_nodes.Given as goal

abbrev pub invariant-loop-n : goal.invariant-loop-n
invariant-loop-n l = record {
  size : l.active_nodes.size ≡ length l.view.allocated;
  all : (m : ℕ) → m < l.n → IsSome (at l.blocks.block_of m) → has l.active_nodes.nodes m ≡ true;
  only : (m : ℕ) → has l.active_nodes.nodes m ≡ true → IsSome (at l.blocks.block_of m);
}
