use Rattle.std.proofs.Common.{◌∙◌, ◌++◌, ap, sym, List, ℕ}
use Rattle.std.proofs.lemmas.List.{append-nil, take_all}
use Rattle.bisim_spec.specs.NodeEdges.{edges_from}
use Rattle.graph_effects.proofs.GoneEdges.{from_next}
use Rattle.graph_effects.proofs.edges.lose_children.Goals as goal

pub loop-i-init : goal.loop-i-init
loop-i-init c = sym (append-nil c.args.lost.now.items)

pub loop-i-preserved : goal.loop-i-preserved
loop-i-preserved c =
    from_next c.args.u c.args.children.now c.loop-i.i c.args.lost.now.items c.loop-i.lost.items c.push.new.self.items c.loop-i-test.true c.loop-i.invariant c.in_ok-push.ensures.ok

pub returns : goal.returns
returns c = c.loop-i.invariant ∙ ap (λ (cs : List ℕ). c.args.lost.now.items ++ edges_from c.args.u cs) (take_all c.loop-i.i c.args.children.now c.loop-i-test.false)
