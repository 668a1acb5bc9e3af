use Rattle.std.proofs.Common.{◌≡◌, ◌≤◌, ◌||◌, ◌&&◌, ℕ, take, length}
use Rattle.graph_spec.specs.Members.{has}
use Rattle.quotient_draft.specs.PutLogs.{has_put, last_put, is_moved_to}
use Rattle.quotient_draft.proofs.moves.Moves.push_moved.Given as goal

abbrev pub invariant-loop-i : goal.invariant-loop-i
invariant-loop-i l = record {
  within : l.i ≤ length l.self-inside.puts;
  ends : last_put l.self-inside.puts l.b l.i ≡ l.i;
  members : (n : ℕ) → (has l.list.items n || (is_moved_to l.self-inside.moves.entries l.b n && has_put (take l.i l.self-inside.puts) n l.b)) ≡ (has l.fn.list.items n || is_moved_to l.self-inside.moves.entries l.b n);
}

abbrev pub decreases-loop-i : goal.decreases-loop-i
decreases-loop-i l = l.i
