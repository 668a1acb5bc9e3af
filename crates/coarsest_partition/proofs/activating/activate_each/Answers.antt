use Rattle.std.proofs.Common.{◌∙◌, get_or, take}
use Rattle.std.specs.Prelude.{not}
use Rattle.std.specs.List.{list_any}
use Rattle.std.proofs.lemmas.List.Folds.{list_any_more}
use Rattle.graph_spec.specs.Members.{has}
use Rattle.bisim_levels.specs.NeighbourSides.{is_neighbour}
use Rattle.coarsest_partition.specs.SingletonBlocks.{is_alone}
use Rattle.coarsest_partition.proofs.SingletonLaws.{activates_step}
use Rattle.coarsest_partition.proofs.activating.activate_each.Goals as goal

pub loop-q-preserved : goal.loop-q-preserved
loop-q-preserved c = record {
  size = c.in_ok-activate_around.ensures.size ∙ c.loop-q.invariant.size;
  nodes = λ m.
      activates_step (has c.args.active_nodes.now.nodes m) (list_any (λ q. is_neighbour c.args.side c.args.view.now q m) (take c.loop-q.q-index c.args.moved.now)) (not (is_alone c.args.blocks.now m))
      (is_neighbour c.args.side c.args.view.now (get_or c.args.moved.now c.loop-q.q-index 0) m) _ _ _ (c.in_ok-activate_around.ensures.nodes m) (c.loop-q.invariant.nodes m)
      (list_any_more (λ q. is_neighbour c.args.side c.args.view.now q m) c.args.moved.now c.loop-q.q-index 0 c.loop-q-test.true);
}
