use Rattle.std.proofs.Common.{◌≡◌, ◌<◌, ℕ, length}
use Rattle.graph_spec.specs.Members.{at}
use Rattle.index_file.specs.SavedGraphs.{blocks_at}
use Rattle.index_check.proofs.fitting.block_list.Given as goal

abbrev pub invariant-loop-n : goal.invariant-loop-n
invariant-loop-n l = record {
  all : length l.block.items ≡ l.n;
  each : (m : ℕ) → m < l.n → at l.block.items m ≡ at (blocks_at l.saved l.j) m;
}
