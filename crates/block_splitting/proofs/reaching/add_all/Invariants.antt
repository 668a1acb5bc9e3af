use Rattle.std.proofs.Common.{◌≡◌, ℕ, take}
use Rattle.std.specs.Prelude.{◌||◌}
use Rattle.graph_spec.specs.Members.{has}
use Rattle.block_splitting.proofs.reaching.add_all.Given as goal

abbrev pub invariant-loop-n : goal.invariant-loop-n
invariant-loop-n l = record {
  size : l.set.size ≡ l.initial.set.size;
  nodes : (m : ℕ) → has l.set.nodes m ≡ (has l.initial.set.nodes m || has (take l.n-index l.nodes) m);
}
