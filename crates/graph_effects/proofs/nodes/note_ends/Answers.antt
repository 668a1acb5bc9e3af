use Rattle.std.proofs.Common.{rules, ◌≡◌, ◌∷◌, ◌++◌}
use Rattle.graph_update.specs.PendingChanges.{graph_after}
use Rattle.graph_effects.specs.StepEffects.{live_ends}
use Rattle.graph_effects.proofs.StepEffects.{ends_next}
use Rattle.graph_effects.proofs.nodes.note_ends.Goals as goal

pub loop-edge-preserved : goal.loop-edge-preserved
loop-edge-preserved c =
    let g2 = graph_after c.args.after.now in
    let cut : c.loop-edge.left.now ≡ c.in-Some.edge.now ∷ c.in-Some.rest.now = search rules in
    ends_next c.args.side g2 c.in-Some.edge.now c.in-Some.rest.now c.loop-edge.left.now c.end_with-end.result c.is_live.result c.loop-edge.nodes.items c.note_if.new.nodes.items
    (c.args.nodes.now.items ++ live_ends c.args.side g2 c.args.edges.now) cut c.loop-edge.invariant c.end_with-end.ensures c.is_live.ensures c.in_ok-note_if.ensures
