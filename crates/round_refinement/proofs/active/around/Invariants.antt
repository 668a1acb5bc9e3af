use Rattle.std.proofs.Common.{◌≡◌, ℕ, take}
use Rattle.std.specs.Prelude.{◌&&◌}
use Rattle.std.specs.List.{list_any}
use Rattle.graph_spec.specs.Members.{at, has}
use Rattle.round_refinement.specs.Active.{is_shared, is_beside}
use Rattle.round_refinement.proofs.active.around.Given as goal

abbrev pub invariant-loop-q : goal.invariant-loop-q
invariant-loop-q g l = (m : ℕ) → has l.next.items m ≡ (list_any (λ q. is_beside (g.G.Digraph.edge l.g) q m) (take l.q-index l.moved) && is_shared l.members (at l.block m))
