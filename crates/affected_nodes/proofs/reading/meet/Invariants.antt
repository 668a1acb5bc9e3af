use Rattle.std.proofs.Common.{◌≡◌, ℕ, take}
use Rattle.std.specs.Prelude.{◌||◌}
use Rattle.graph_spec.specs.Members.{has}
use Rattle.affected_nodes.proofs.reading.meet.Given as goal

abbrev pub invariant-loop-i : goal.invariant-loop-i
invariant-loop-i l = (c : ℕ) → has l.met.keys c ≡ (has l.initial.met.keys c || has (take l.i l.nodes) c)
