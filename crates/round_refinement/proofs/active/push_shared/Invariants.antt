use Rattle.std.proofs.Common.{◌≡◌, ℕ, take}
use Rattle.std.specs.Prelude.{◌||◌, ◌&&◌}
use Rattle.graph_spec.specs.Members.{at, has}
use Rattle.round_refinement.specs.Active.{is_shared}
use Rattle.round_refinement.proofs.active.push_shared.Given as goal

abbrev pub invariant-loop-n : goal.invariant-loop-n
invariant-loop-n l = (m : ℕ) → has l.next.items m ≡ (has l.initial.next.items m || (has (take l.n-index l.nodes) m && is_shared l.members (at l.block m)))
