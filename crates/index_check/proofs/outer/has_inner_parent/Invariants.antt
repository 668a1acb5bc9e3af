use Rattle.std.proofs.Common.{◌≡◌, ℕ, ◌<◌, get_or}
use Rattle.graph_spec.specs.Members.{at}
use Rattle.index_check.proofs.outer.has_inner_parent.Given as goal

abbrev pub invariant-loop-i : goal.invariant-loop-i
invariant-loop-i g l = (j : ℕ) → j < l.i → at l.block (get_or l.parents j 0) ≡ l.own → ⊥
