use Rattle.round_refinement.specs.NumberedShapes.{digraph_shape}
use Rattle.round_refinement.proofs.LevelLaws.{is_shape_by_number, node_of}
use Rattle.round_refinement.proofs.ActiveLaws.{closed_handed, grouped_handed}
use Rattle.round_refinement.proofs.active.part_again.Goals as goal

pub group-requires-clause-nodes : goal.group-requires-clause-nodes
group-requires-clause-nodes g c = λ n h. node_of (g.G.Digraph.label_at c.args.g.now n) (c.requires.way.coarse.partition.only n h)

pub returns-clause-way : goal.returns-clause-way
returns-clause-way g c =
    let s = digraph_shape g.G.Digraph c.args.g.now in
    let shape = is_shape_by_number (g.G.Digraph.span c.args.g.now) (g.G.Digraph.label_at c.args.g.now) (g.G.Digraph.edge c.args.g.now) (g.met.G.Digraph.below c.args.g.now) (g.met.G.Digraph.ends c.args.g.now) in
    let next = (c.in_ok-move_nodes.ensures s shape c.requires.way
    (closed_handed s c.in_ok-active.active.items c.deref-2.result.now c.deref-2.ensures.value c.in_ok-active.ensures.closed)
    (grouped_handed s c.args.parts.now.before.items c.args.parts.now.block.items c.args.parts.now.moved.items c.in_ok-active.active.items c.deref.result.now c.deref-2.result.now
    c.in_ok-groups.groups.items c.deref-3.result.now shape c.requires.way c.deref.ensures.value c.in_ok-groups.ensures.grouped c.deref-2.ensures.value c.deref-3.ensures.value))
    in
    next.way

pub returns-clause-listed : goal.returns-clause-listed
returns-clause-listed g c =
    let s = digraph_shape g.G.Digraph c.args.g.now in
    let shape = is_shape_by_number (g.G.Digraph.span c.args.g.now) (g.G.Digraph.label_at c.args.g.now) (g.G.Digraph.edge c.args.g.now) (g.met.G.Digraph.below c.args.g.now) (g.met.G.Digraph.ends c.args.g.now) in
    let next = (c.in_ok-move_nodes.ensures s shape c.requires.way
    (closed_handed s c.in_ok-active.active.items c.deref-2.result.now c.deref-2.ensures.value c.in_ok-active.ensures.closed)
    (grouped_handed s c.args.parts.now.before.items c.args.parts.now.block.items c.args.parts.now.moved.items c.in_ok-active.active.items c.deref.result.now c.deref-2.result.now
    c.in_ok-groups.groups.items c.deref-3.result.now shape c.requires.way c.deref.ensures.value c.in_ok-groups.ensures.grouped c.deref-2.ensures.value c.deref-3.ensures.value))
    in
    (c.in_ok-note_moves.ensures c.args.parts.now.block.items next c.in_ok-active.ensures.listed c.in_ok-groups.ensures.watched).0

pub returns-clause-watched : goal.returns-clause-watched
returns-clause-watched g c =
    let s = digraph_shape g.G.Digraph c.args.g.now in
    let shape = is_shape_by_number (g.G.Digraph.span c.args.g.now) (g.G.Digraph.label_at c.args.g.now) (g.G.Digraph.edge c.args.g.now) (g.met.G.Digraph.below c.args.g.now) (g.met.G.Digraph.ends c.args.g.now) in
    let next = (c.in_ok-move_nodes.ensures s shape c.requires.way
    (closed_handed s c.in_ok-active.active.items c.deref-2.result.now c.deref-2.ensures.value c.in_ok-active.ensures.closed)
    (grouped_handed s c.args.parts.now.before.items c.args.parts.now.block.items c.args.parts.now.moved.items c.in_ok-active.active.items c.deref.result.now c.deref-2.result.now
    c.in_ok-groups.groups.items c.deref-3.result.now shape c.requires.way c.deref.ensures.value c.in_ok-groups.ensures.grouped c.deref-2.ensures.value c.deref-3.ensures.value))
    in
    (c.in_ok-note_moves.ensures c.args.parts.now.block.items next c.in_ok-active.ensures.listed c.in_ok-groups.ensures.watched).1
