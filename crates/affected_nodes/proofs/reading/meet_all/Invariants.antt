use Rattle.std.proofs.Common.{◌≡◌, ◌++◌, ℕ, List}
use Rattle.std.specs.Prelude.{◌||◌}
use Rattle.graph_spec.specs.Members.{has}
use Rattle.affected_nodes.proofs.reading.meet_all.Given as goal

abbrev pub invariant-loop-n : goal.invariant-loop-n
invariant-loop-n l = record {
  prefix : (rest : List ℕ) × (l.met.keys ≡ l.initial.met.keys ++ rest);
  there : (c : ℕ) → has l.met.keys c ≡ (has l.initial.met.keys c || has l.yielded c);
}
