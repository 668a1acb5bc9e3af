use Rattle.std.proofs.Common.{ℕ, take, IsTrue}
use Rattle.graph_spec.specs.Members.{has}
use Rattle.path_automaton.specs.MarkRows.{IsSet}
use Rattle.path_automaton.specs.NewMarks.{Gathers}
use Rattle.path_automaton.proofs.frontier.mark_each.Given as goal

abbrev pub invariant-loop-n : goal.invariant-loop-n
invariant-loop-n l = record {
  gathers : Gathers (λ v. IsTrue (has l.places v)) l.initial.row l.row l.initial.found.items l.found.items;
  marked : (v : ℕ) → IsTrue (has (take l.n-index l.places) v) → IsSet l.row v;
}
