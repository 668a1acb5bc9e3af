use Rattle.std.proofs.Common.{rules, refl, ◌≡◌, ◌∷◌, ◌++◌}
use Rattle.bisim_spec.specs.declared.sides.Side.TheVariants.{Parents}
use Rattle.graph_update.specs.PendingChanges.{graph_after}
use Rattle.graph_effects.specs.StepEffects.{live_ends}
use Rattle.graph_effects.proofs.StepEffects.{ends_next}
use Rattle.one_update.proofs.unsteady.note_lost.Goals as goal

pub loop-edge-preserved : goal.loop-edge-preserved
loop-edge-preserved c =
    let g2 = graph_after c.args.after.now in
    let cut : c.loop-edge.left.now ≡ c.in-Some.edge.now ∷ c.in-Some.rest.now = search rules in
    ends_next Parents g2 c.in-Some.edge.now c.in-Some.rest.now c.loop-edge.left.now c.in-Some.edge.now.1 c.is_live.result c.loop-edge.nodes.items c.note_if.new.nodes.items
    (c.args.nodes.now.items ++ live_ends Parents g2 c.args.lost.now) cut c.loop-edge.invariant refl c.is_live.ensures c.in_ok-note_if.ensures
