use Rattle.std.proofs.Common.{rules, ◌≡◌, ◌∷◌, ◌++◌}
use Rattle.one_update.specs.UnsteadyNodes.{unsupported_ends}
use Rattle.one_update.proofs.UnsteadyLaws.{unsupported_next}
use Rattle.one_update.proofs.unsteady.note_unsupported.Goals as goal

pub loop-edge-preserved : goal.loop-edge-preserved
loop-edge-preserved c =
    let cut : c.loop-edge.left.now ≡ c.in-Some.edge.now ∷ c.in-Some.rest.now = search rules in
    unsupported_next c.args.base.now c.in-Some.edge.now c.in-Some.rest.now c.loop-edge.left.now c.is_supported.result c.loop-edge.nodes.items c.note_if.new.nodes.items
    (c.args.nodes.now.items ++ unsupported_ends c.args.base.now c.args.added.now) cut c.loop-edge.invariant c.is_supported.ensures c.in_ok-note_if.ensures
