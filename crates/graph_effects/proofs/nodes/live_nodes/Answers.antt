use Rattle.std.proofs.Common.{◌∙◌, arith, ap, ℕ, subst, ◌++◌, ◌≡◌}
use Rattle.graph_spec.specs.Members.{Lists}
use Rattle.graph_update.specs.PendingChanges.{graph_after}
use Rattle.graph_effects.specs.StepEffects.{node_if, comes_below}
use Rattle.graph_effects.proofs.GoneNodes.{came_none, came_next}
use Rattle.graph_effects.proofs.nodes.live_nodes.Goals as goal

pub loop-n-init : goal.loop-n-init
loop-n-init c = record {
  listed = rw c.new-nodes.ensures.items (came_none (graph_after c.args.after.now) c.args.first);
  low = omega arith;
  high = c.requires;
}

pub loop-n-preserved : goal.loop-n-preserved
loop-n-preserved c =
    let g2 = graph_after c.args.after.now in
    let n = c.loop-n.n in
    let inv = c.loop-n.invariant in
    let low = inv.low in
    let below = c.loop-n-test.true in
    record {
      listed = came_next g2 c.args.first n c.loop-n.nodes.items c.note_if.new.nodes.items inv.low inv.listed
          (c.in_ok-note_if.ensures ∙ ap (λ b. c.loop-n.nodes.items ++ node_if b n) c.is_live.ensures);
      low = omega (arith, low);
      high = omega (arith, below);
    }

pub returns : goal.returns
returns c =
    let past = c.loop-n-test.false in
    let high = c.loop-n.invariant.high in
    let e : c.loop-n.n ≡ c.args.end = omega (arith, past, high) in
    subst (λ (k : ℕ). Lists (comes_below (graph_after c.args.after.now) c.args.first k) c.loop-n.nodes.items) e c.loop-n.invariant.listed
