use Rattle.std.proofs.Common.{◌∙◌, ◌+◌}
use Rattle.graph_steps.proofs.PrefixSteps.{can_at, can_prefix}
use Rattle.graph_steps.proofs.NodeEdges.{left_next, live_not_gone, prefix_not_gone}
use Rattle.graph_steps.proofs.degrees.edges_left.Goals as goal

pub loop-i-preserved : goal.loop-i-preserved
loop-i-preserved c =
    let ss = c.args.prefix.now in
    let i = c.loop-i.i in
    let s = c.index-prefix-i.result in
    let g = c.args.graph.now.graph in
    let there = live_not_gone ss g c.args.u c.requires.can c.requires.live in
    c.count_left-count.ensures
    ∙ left_next ss i s g c.args.u c.loop-i.count c.loop-i-test.true c.index-prefix-i.is c.requires.can c.requires.live
    (can_at ss i s g c.loop-i-test.true c.index-prefix-i.is c.requires.can) (can_prefix ss i g c.requires.can)
    (prefix_not_gone ss i c.args.u there) (prefix_not_gone ss (i + 1) c.args.u there) c.loop-i.invariant
