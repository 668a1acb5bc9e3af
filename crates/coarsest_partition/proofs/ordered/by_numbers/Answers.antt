use Rattle.std.proofs.Common.{ℕ, List, Option, ap, ◌∙◌}
use Rattle.graph_spec.specs.Members.{at}
use Rattle.block_partition.proofs.Filled.{agrees_moved}
use Rattle.coarsest_partition.proofs.OrderLaws.{ordered_agrees, ordered_below, ordered_labelled}
use Rattle.coarsest_partition.proofs.Starts.{nodes_below, blocks_below, start_inhabited}
use Rattle.coarsest_partition.proofs.ordered.by_numbers.Goals as goal

pub fill-requires-clause-nodes : goal.fill-requires-clause-nodes
fill-requires-clause-nodes c =
    nodes_below _ c.created.ensures.graph _ _ _ c.deref.ensures.value (ordered_agrees _ c.created.ensures.graph _ _ c.requires.ordered c.requires.all).partition c.created.ensures.count

pub fill-requires-clause-blocks : goal.fill-requires-clause-blocks
fill-requires-clause-blocks c = blocks_below _ _ _ _ _ c.deref.ensures.value (ordered_below _ _ _ c.requires.ordered) c.deref-2.ensures.value c.in_ok-labels.ensures.count

pub returns-clause-agrees : goal.returns-clause-agrees
returns-clause-agrees c =
    agrees_moved _ _ _ _ (λ n. c.in_ok-blocks.ensures.blocks n ∙ ap (λ (bs : List (Option ℕ)). at bs n) c.deref.ensures.value) (ordered_agrees _ c.created.ensures.graph _ _ c.requires.ordered c.requires.all)

pub returns-clause-labelled : goal.returns-clause-labelled
returns-clause-labelled c =
    ordered_labelled _ _ _ _ _ _ _ c.deref.ensures.value c.deref-2.ensures.value c.in_ok-blocks.ensures.blocks c.in_ok-blocks.ensures.labels c.requires.ordered c.in_ok-labels.ensures.first

pub returns-clause-inhabited : goal.returns-clause-inhabited
returns-clause-inhabited c =
    start_inhabited _ _ _ _ _ _ c.deref.ensures.value c.deref-2.ensures.value c.in_ok-blocks.ensures.blocks c.in_ok-blocks.ensures.labels (ordered_below _ _ _ c.requires.ordered) c.in_ok-labels.ensures.count
