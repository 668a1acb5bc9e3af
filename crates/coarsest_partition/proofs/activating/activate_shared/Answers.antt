use Rattle.std.proofs.Common.{arith, ◌∙◌, get_or, take}
use Rattle.std.specs.Prelude.{not, nat_eq}
use Rattle.graph_spec.specs.Members.{has}
use Rattle.coarsest_partition.specs.SingletonBlocks.{is_alone}
use Rattle.graph_spec.proofs.MemberLaws.{has_at, has_more}
use Rattle.coarsest_partition.proofs.SingletonLaws.{activates_step}
use Rattle.coarsest_partition.proofs.activating.activate_shared.Goals as goal

pub add_shared-requires : goal.add_shared-requires
add_shared-requires c =
    let b = c.requires.below _ (has_at c.args.nodes.now c.loop-n.n-index 0 c.loop-n-test.true) in
    let size = c.loop-n.invariant.size in
    omega (arith, b, size)

pub loop-n-preserved : goal.loop-n-preserved
loop-n-preserved c = record {
  size = c.in_ok-add_shared.ensures.size ∙ c.loop-n.invariant.size;
  nodes = λ m.
      activates_step (has c.args.active_nodes.now.nodes m) (has (take c.loop-n.n-index c.args.nodes.now) m) (not (is_alone c.args.blocks.now m))
      (nat_eq m (get_or c.args.nodes.now c.loop-n.n-index 0)) _ _ _ (c.in_ok-add_shared.ensures.nodes m) (c.loop-n.invariant.nodes m)
      (has_more c.args.nodes.now c.loop-n.n-index 0 m c.loop-n-test.true);
}
