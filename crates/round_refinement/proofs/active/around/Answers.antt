use Rattle.std.proofs.Common.{get_or, take, false}
use Rattle.std.specs.List.{list_any}
use Rattle.std.proofs.lemmas.List.Folds.{list_any_more}
use Rattle.graph_spec.specs.Members.{at}
use Rattle.round_refinement.specs.Active.{is_shared, is_beside}
use Rattle.round_refinement.proofs.ActiveLaws.{adds_step}
use Rattle.round_refinement.proofs.active.around.Goals as goal

pub loop-q-preserved : goal.loop-q-preserved
loop-q-preserved g c = λ m.
    adds_step false (list_any (λ q. is_beside (g.G.Digraph.edge c.args.g.now) q m) (take c.loop-q.q-index c.args.moved.now)) (is_shared c.args.members.now (at c.args.block.now m))
    (is_beside (g.G.Digraph.edge c.args.g.now) (get_or c.args.moved.now c.loop-q.q-index 0) m) _ _ _ (c.in_ok-push_around.ensures m) (c.loop-q.invariant m)
    (list_any_more (λ q. is_beside (g.G.Digraph.edge c.args.g.now) q m) c.args.moved.now c.loop-q.q-index 0 c.loop-q-test.true)
