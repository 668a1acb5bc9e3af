use Rattle.std.proofs.Common.{true≢false, sym, ◌∙◌, subst, take, ◌+◌}
use Rattle.round_refinement.specs.NeighbourSides.{is_neighbour}
use Rattle.round_refinement.specs.Changes.{LosesSome}
use Rattle.round_refinement.proofs.ChangeLaws.{loses_skip, loses_push}
use Rattle.round_refinement.proofs.changes.push_lost.Goals as goal
use Rattle.round_refinement.proofs.changes.push_lost.Goals.{then-not-stays+in_ok-push, else-not-stays}

pub loop-b-preserved : goal.loop-b-preserved
loop-b-preserved g c =
    let nb = is_neighbour c.args.side (g.G.Digraph.edge c.args.g.now) in
    let before = c.loop-b.key.items in
    let found = c.in_ok-stays.ensures.found in
    record {
      watched = c.in_ok-stays.ensures.watched;
      loses = elim c.if-not-stays.branch [
        | then-not-stays+in_ok-push w ↦
            subst (λ k. LosesSome nb c.args.block.now c.args.n (take (c.loop-b.b-index + 1) c.args.left.now) c.args.key.now.items k.items) (sym w.key-is)
            (loses_push nb c.args.block.now c.args.n c.args.left.now c.args.key.now.items before _ c.loop-b.b-index 0 c.loop-b-test.true c.loop-b.invariant.loses
            (λ p one e. true≢false (sym (found.1 (p, one, e)) ∙ w.if-not-stays.true)) w.in_ok-push.ensures.items)
        | else-not-stays w ↦
            (let p = found.0 w.if-not-stays.false in
            subst (λ k. LosesSome nb c.args.block.now c.args.n (take (c.loop-b.b-index + 1) c.args.left.now) c.args.key.now.items k.items) (sym w.key-is)
            (loses_skip nb c.args.block.now c.args.n c.args.left.now c.args.key.now.items before c.loop-b.b-index 0 p.0 c.loop-b-test.true c.loop-b.invariant.loses p.1 p.2))
      ];
    }
