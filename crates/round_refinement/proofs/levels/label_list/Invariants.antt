use Rattle.std.proofs.Common.{◌≡◌, ℕ, ◌<◌, length}
use Rattle.graph_spec.specs.Members.{at}
use Rattle.round_refinement.proofs.levels.label_list.Given as goal

abbrev pub invariant-loop-n : goal.invariant-loop-n
invariant-loop-n g l = record {
  length_is : length l.labels.items ≡ l.n;
  each : (m : ℕ) → m < l.n → at l.labels.items m ≡ g.G.Digraph.label_at l.g m;
}
