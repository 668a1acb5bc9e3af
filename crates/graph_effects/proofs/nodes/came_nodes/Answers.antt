use Rattle.std.proofs.Common.{◌∙◌, arith, ap, sym, ℕ, subst, length}
use Rattle.graph_spec.specs.Graphs.{Graph}
use Rattle.graph_spec.specs.Members.{Lists}
use Rattle.change_spec.proofs.NamedNodes.{given_all}
use Rattle.graph_update.specs.PendingChanges.{graph_after}
use Rattle.graph_effects.specs.StepEffects.{comes_below}
use Rattle.graph_effects.proofs.GoneNodes.{came_are, new_can}
use Rattle.graph_effects.proofs.nodes.came_nodes.Goals as goal

pub live_nodes-requires : goal.live_nodes-requires
live_nodes-requires c =
    let a = c.args.after.now in
    let more = given_all a.change a.before in
    let same = ap (λ (g : Graph). length g.allocated) c.requires in
    let first = c.created-first.ensures.count in
    let end = c.created-end.ensures.count in
    omega (arith, more, same, first, end)

pub returns : goal.returns
returns c =
    let a = c.args.after.now in
    let first = c.created-first.ensures.count ∙ sym (ap (λ (g : Graph). length g.allocated) c.requires) in
    let end = c.created-end.ensures.count in
    came_are a.change a.before c.in_ok-nodes.nodes.items (new_can a.change a.before c.created-end.ensures.new)
    (subst (λ (k : ℕ). Lists (comes_below (graph_after a) k (length (graph_after a).allocated)) c.in_ok-nodes.nodes.items) first
    (subst (λ (k : ℕ). Lists (comes_below (graph_after a) c.created-first.result k) c.in_ok-nodes.nodes.items) end c.in_ok-nodes.ensures))
