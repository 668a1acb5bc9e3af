use Rattle.std.proofs.Common.{ap, inl, inr}
use Rattle.bisim_spec.specs.declared.sides.Side.TheVariants.{Parents}
use Rattle.coarsest_partition.specs.SingletonBlocks.{is_alone}
use Rattle.coarsest_partition.proofs.SingletonLaws.{alone_are}
use Rattle.block_splitting.specs.Nodes.{NodeList}
use Rattle.coarsest_partition.proofs.RoundLaws.{step_by_parents, activated_near, activated_is, none_activated}
use Rattle.block_splitting.proofs.Keyed.{around_nodes}
use Rattle.coarsest_partition.proofs.rounds.round.Goals as goal

pub returns-clause-step : goal.returns-clause-step
returns-clause-step c =
    step_by_parents c.args.view.now _ _ _ _ c.in_ok-moved.moved.items (is_alone c.split.new.blocks) c.in_ok-moved.ensures.split (alone_are c.split.new.blocks)
    (activated_is c.args.view.now Parents (is_alone c.split.new.blocks) _ _ _ _ (ap (λ (s : NodeList). s.nodes) c.clear.ensures) c.deref.ensures.value c.in_ok-activate_moved.ensures.nodes)

pub returns-clause-nodes : goal.returns-clause-nodes
returns-clause-nodes c = λ n h.
    let activated = activated_is c.args.view.now Parents (is_alone c.split.new.blocks) _ _ _ _ (ap (λ (s : NodeList). s.nodes) c.clear.ensures) c.deref.ensures.value c.in_ok-activate_moved.ensures.nodes in
    around_nodes c.args.view.now c.requires.refine.graph Parents c.in_ok-moved.moved.items n (activated_near c.args.view.now Parents (is_alone c.split.new.blocks) _ _ activated n h)

pub returns-clause-more : goal.returns-clause-more
returns-clause-more c = elim c.in_ok-moved.ensures.more [
  | inl (none, le) ↦ inl (none_activated c.args.view.now Parents (is_alone c.split.new.blocks) c.in_ok-moved.moved.items _ (activated_is c.args.view.now Parents (is_alone c.split.new.blocks) _ _ _ _ (ap (λ (s : NodeList). s.nodes) c.clear.ensures) c.deref.ensures.value c.in_ok-activate_moved.ensures.nodes) none, le)
  | inr more ↦ inr more
]

pub returns-clause-kept : goal.returns-clause-kept
returns-clause-kept c = record { labelled = c.in_ok-moved.ensures.labelled; inhabited = c.in_ok-moved.ensures.inhabited }
