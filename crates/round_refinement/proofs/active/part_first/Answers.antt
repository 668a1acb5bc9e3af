use Rattle.std.proofs.Common.{sym, subst, arith}
use Rattle.round_refinement.specs.NumberedShapes.{digraph_shape}
use Rattle.round_refinement.specs.Changes.{AreBlocksOf}
use Rattle.round_refinement.specs.Active.{AreAllNodes, AreGrouped}
use Rattle.bisim_spec.specs.Bisimilarity.{FB}
use Rattle.round_refinement.proofs.LevelLaws.{is_shape_by_number}
use Rattle.round_refinement.proofs.ActiveLaws.{closed_handed, nodes_closed, level_grouped}
use Rattle.round_refinement.proofs.active.part_first.Goals as goal

pub returns : goal.returns
returns g c =
    let s = digraph_shape g.G.Digraph c.args.g.now in
    let shape = is_shape_by_number (g.G.Digraph.span c.args.g.now) (g.G.Digraph.label_at c.args.g.now) (g.G.Digraph.edge c.args.g.now) (g.met.G.Digraph.below c.args.g.now) (g.met.G.Digraph.ends c.args.g.now) in
    let nodes = c.in_ok-nodes.nodes.items in
    let groups = c.in_ok-groups.groups.items in
    let all = subst (λ b. AreAllNodes b c.size.result nodes) c.deref.ensures.value c.in_ok-nodes.ensures.all in
    let closed = nodes_closed s c.args.parts.now.block.items nodes c.size.result shape c.requires.way.coarse (let e = c.size.ensures in omega (arith, e)) all in
    let blocks = subst (λ n. AreBlocksOf c.args.next.items n groups) c.deref-2.ensures.value c.in_ok-groups.ensures in
    let grouped = level_grouped s c.args.parts.now.block.items c.args.next.items nodes groups shape c.requires.levels blocks in
    let next = c.in_ok-move_nodes.ensures s shape c.requires.way
    (closed_handed s nodes c.deref-3.result.now c.deref-3.ensures.value closed)
    (subst (λ y. AreGrouped (FB s) c.deref-3.result.now y) (sym c.deref-4.ensures.value) (subst (λ x. AreGrouped (FB s) x groups) (sym c.deref-3.ensures.value) grouped))
    in next.way
