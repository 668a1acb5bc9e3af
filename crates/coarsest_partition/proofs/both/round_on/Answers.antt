use Rattle.std.proofs.Common.{ap, inl, inr}
use Rattle.coarsest_partition.specs.SingletonBlocks.{is_alone}
use Rattle.coarsest_partition.proofs.SingletonLaws.{alone_are}
use Rattle.block_splitting.specs.Nodes.{NodeList}
use Rattle.coarsest_partition.proofs.RoundLaws.{activated_is, activated_near, none_activated}
use Rattle.block_splitting.proofs.Keyed.{around_nodes}
use Rattle.coarsest_partition.proofs.BothLaws.{step_both, left_is, left_nodes, left_same}
use Rattle.coarsest_partition.proofs.both.round_on.Goals as goal

pub returns-clause-step : goal.returns-clause-step
returns-clause-step c =
    step_both c.args.view.now c.args.side _ _ _ _ _ _ c.in_ok-moved.moved.items (is_alone c.split.new.blocks) c.in_ok-moved.ensures.split (alone_are c.split.new.blocks)
    (activated_is c.args.view.now c.args.side (is_alone c.split.new.blocks) _ _ _ _ (ap (λ (s : NodeList). s.nodes) c.clear.ensures) c.deref.ensures.value c.in_ok-activate_moved.ensures.nodes)
    (left_is c.args.view.now c.args.side _ (is_alone c.split.new.blocks) _ _ _ _ c.opposite.ensures c.deref-2.ensures.value c.in_ok-activate_moved-2.ensures.nodes)

pub returns-clause-own : goal.returns-clause-own
returns-clause-own c = λ n h.
    let activated = activated_is c.args.view.now c.args.side (is_alone c.split.new.blocks) _ _ _ _ (ap (λ (s : NodeList). s.nodes) c.clear.ensures) c.deref.ensures.value c.in_ok-activate_moved.ensures.nodes in
    around_nodes c.args.view.now c.requires.refine.graph c.args.side c.in_ok-moved.moved.items n (activated_near c.args.view.now c.args.side (is_alone c.split.new.blocks) _ _ activated n h)

pub returns-clause-other : goal.returns-clause-other
returns-clause-other c =
    left_nodes c.args.view.now c.requires.refine.graph c.args.side (is_alone c.split.new.blocks) _ c.in_ok-moved.moved.items _ (left_is c.args.view.now c.args.side _ (is_alone c.split.new.blocks) _ _ _ _ c.opposite.ensures c.deref-2.ensures.value c.in_ok-activate_moved-2.ensures.nodes) c.requires.other.nodes

pub returns-clause-more : goal.returns-clause-more
returns-clause-more c = elim c.in_ok-moved.ensures.more [
  | inl (none, le) ↦ inl (
    none_activated c.args.view.now c.args.side (is_alone c.split.new.blocks) c.in_ok-moved.moved.items _ (activated_is c.args.view.now c.args.side (is_alone c.split.new.blocks) _ _ _ _ (ap (λ (s : NodeList). s.nodes) c.clear.ensures) c.deref.ensures.value c.in_ok-activate_moved.ensures.nodes) none,
    left_same c.args.view.now c.args.side (is_alone c.split.new.blocks) _ c.in_ok-moved.moved.items _ (left_is c.args.view.now c.args.side _ (is_alone c.split.new.blocks) _ _ _ _ c.opposite.ensures c.deref-2.ensures.value c.in_ok-activate_moved-2.ensures.nodes) none,
    le,
  )
  | inr more ↦ inr more
]

pub returns-clause-kept : goal.returns-clause-kept
returns-clause-kept c = record { labelled = c.in_ok-moved.ensures.labelled; inhabited = c.in_ok-moved.ensures.inhabited }
