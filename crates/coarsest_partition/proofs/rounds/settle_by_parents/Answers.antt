use Rattle.std.proofs.Common.{arith, ◌∙◌, sym, inl, inr, length, nat_eq}
use Rattle.block_partition.specs.LabelledPartitions.{block_count}
use Rattle.coarsest_partition.proofs.StepLaws.{step, bisim_target, bisim_part, bisim_end}
use Rattle.coarsest_partition.proofs.RoundLaws.{falls, empty_length, length_empty}
use Rattle.coarsest_partition.proofs.rounds.settle_by_parents.Goals as goal

pub round-requires-clause-refine : goal.round-requires-clause-refine
round-requires-clause-refine c = record {
  graph = c.size.ensures.graph;
  partition = bisim_part _ c.size.ensures.graph _ _ c.rounds.invariant.refined;
  reserved = c.rounds.invariant.reserved;
}

pub round-requires-clause-active_nodes : goal.round-requires-clause-active_nodes
round-requires-clause-active_nodes c = record { nodes = c.rounds.invariant.nodes; size = c.rounds.invariant.size }

pub rounds-smaller : goal.rounds-smaller
rounds-smaller c =
    falls (block_count c.rounds.blocks) (block_count c.round.new.blocks) _ (nat_eq (length c.round.new.active_nodes.nodes) 0) (sym c.rounds-test.ensures) c.in_ok-round.ensures.few
    (elim c.in_ok-round.ensures.more [
      | inl (none, le) ↦ inl (empty_length c.round.new.active_nodes.nodes none, le)
      | inr more ↦ inr more
    ])

pub rounds-preserved : goal.rounds-preserved
rounds-preserved c = record {
  refined = step _ _ _ _ _ _ _ (bisim_target _ c.size.ensures.graph) c.rounds.invariant.refined c.in_ok-round.ensures.step;
  nodes = c.in_ok-round.ensures.nodes;
  size = c.in_ok-round.ensures.size ∙ c.rounds.invariant.size;
  labelled = λ h. c.in_ok-round.ensures.kept.labelled (c.rounds.invariant.labelled h);
  inhabited = λ h. c.in_ok-round.ensures.kept.inhabited (c.rounds.invariant.inhabited h);
  reserved = (let a = c.rounds.invariant.reserved in let b = c.in_ok-round.ensures.reserved in omega (arith, a, b));
}

pub returns-clause-agrees : goal.returns-clause-agrees
returns-clause-agrees c = bisim_end _ c.size.ensures.graph _ _ c.rounds.invariant.refined (length_empty c.rounds.active_nodes.nodes (sym c.rounds-test.ensures))
