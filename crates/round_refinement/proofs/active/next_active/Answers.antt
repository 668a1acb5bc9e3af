use Rattle.round_refinement.specs.NumberedShapes.{digraph_shape}
use Rattle.round_refinement.proofs.LevelLaws.{is_shape_by_number}
use Rattle.round_refinement.proofs.ActiveLaws.{around_handed}
use Rattle.round_refinement.proofs.active.next_active.Goals as goal

pub returns-clause-closed : goal.returns-clause-closed
returns-clause-closed g c =
    let s = digraph_shape g.G.Digraph c.args.g.now in
    let shape = is_shape_by_number (g.G.Digraph.span c.args.g.now) (g.G.Digraph.label_at c.args.g.now) (g.G.Digraph.edge c.args.g.now) (g.met.G.Digraph.below c.args.g.now) (g.met.G.Digraph.ends c.args.g.now) in
    around_handed s c.args.parts.now.before.items c.args.parts.now.block.items c.deref.result.now c.deref-4.result.now c.args.parts.now.moved.items c.deref-3.result.now c.deref-2.result.now
    c.in_ok-near.near.items c.deref-5.result.now c.in_ok-active.active.items shape c.requires.way c.deref.ensures.value c.deref-3.ensures.value c.in_ok-near.ensures
    c.deref-4.ensures.value c.deref-5.ensures.value c.in_ok-active.ensures.widened
