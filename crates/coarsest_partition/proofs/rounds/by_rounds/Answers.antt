use Rattle.coarsest_partition.proofs.StepLaws.{start, bisim_target}
use Rattle.coarsest_partition.proofs.rounds.by_rounds.Goals as goal

pub settle_by_parents-requires-clause-refined : goal.settle_by_parents-requires-clause-refined
settle_by_parents-requires-clause-refined c = start _ _ _ _ _ (bisim_target _ c.in_ok-active_nodes.ensures.graph) c.in_ok-labels.ensures.agrees (λ t k n h. c.in_ok-active_nodes.ensures.all n h)
