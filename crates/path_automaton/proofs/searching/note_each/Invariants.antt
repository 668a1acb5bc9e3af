use Rattle.std.proofs.Common.{◌≡◌, ◌<◌, ◌⊎◌, ℕ, take, IsTrue}
use Rattle.std.specs.List.Sorted.{IsStrictlyIncreasing}
use Rattle.graph_spec.specs.Members.{has}
use Rattle.path_automaton.proofs.searching.note_each.Given as goal

abbrev pub invariant-loop-p : goal.invariant-loop-p
invariant-loop-p l = record {
  size : l.answers.size ≡ l.initial.answers.size;
  kept : (v : ℕ) → IsTrue (has l.initial.answers.members v) → IsTrue (has l.answers.members v);
  noted : (v : ℕ) → IsTrue (has (take l.p-index l.places) v) → v < l.answers.size → IsTrue (has l.answers.members v);
  source : (v : ℕ) → IsTrue (has l.answers.members v) → IsTrue (has l.initial.answers.members v) ⊎ ((v < l.answers.size) × IsTrue (has l.places v));
  rising : IsStrictlyIncreasing l.answers.members;
}
