use Rattle.std.proofs.Common.{◌≡◌, ◌||◌, ◌&&◌, ℕ}
use Rattle.std.specs.Prelude.{is_none, nat_eq}
use Rattle.std.specs.Map.{lookup}
use Rattle.graph_spec.specs.Members.{has}
use Rattle.quotient_draft.specs.PutLogs.{is_kept}
use Rattle.quotient_draft.proofs.moves.Moves.push_kept.Given as goal

abbrev pub invariant-loop-n : goal.invariant-loop-n
invariant-loop-n l = record {
  next : (goal.iterator-loop-n).can_next l.n-iterator;
  finite : (goal.iterator-loop-n).is_finite l.n-iterator;
  members : (n : ℕ) → (has l.list.items n || (is_none (lookup (nat_eq n) l.self-inside.moves.entries) && has l.n-iterator n)) ≡ (has l.fn.list.items n || is_kept l.base.blocks.block_of l.self-inside.moves.entries l.b n);
}
