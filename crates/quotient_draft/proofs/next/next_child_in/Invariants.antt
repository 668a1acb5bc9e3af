use Rattle.std.proofs.Common.{ℕ, Bool, ◌&&◌, ◌||◌, take}
use Rattle.std.specs.Prelude.{nat_lt}
use Rattle.graph_spec.specs.Members.{has}
use Rattle.bisim_spec.specs.IndexGraphs.{support_at}
use Rattle.quotient_draft.specs.Drafts.{with_supports}
use Rattle.quotient_draft.specs.Nexts.{IsNext}
use Rattle.quotient_draft.proofs.next.next_child_in.Given as goal

abbrev pub invariant-loop-i : goal.invariant-loop-i
invariant-loop-i l = (seen : ℕ → Bool) → IsNext (λ b. seen b && nat_lt 0 (support_at (with_supports l.base.supports l.changed) l.a b)) l.from l.fn.next
    → IsNext (λ b. (seen b || has (take l.i l.blocks) b) && nat_lt 0 (support_at (with_supports l.base.supports l.changed) l.a b)) l.from l.found
