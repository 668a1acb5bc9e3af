use Rattle.std.proofs.Common.{◌≡◌, ℕ, ◌<◌, List, length, refl, sym, ap, ◌∙◌, subst}
use Rattle.std.proofs.lemmas.List.{length-replicate}
use Rattle.std.proofs.Math.ListN.{replicate}
use Rattle.block_partition.specs.LabelledPartitions.{Partition}
use Rattle.bisim_spec.specs.IndexGraphs.{SupportTable}
use Rattle.quotient.specs.QuotientNeighbours.{AreLive, ArePairsBelow, list_at}
use Rattle.quotient.proofs.Edited.{some_within}
use Rattle.quotient.proofs.NeighbourListLaws.{neighbour_lists_none}
use Rattle.quotient.proofs.Pairs.{none_list, list_of_none}
use Rattle.quotient.proofs.block_edges.BlockEdges.of_supports.Goals as goal

-- a list for each block
all_below : (p : Partition) (t : SupportTable) (lists : List (List ℕ)) → AreLive p t → length lists ≡ length p.labels → ArePairsBelow (length lists) t
all_below p t lists live same a b h =
    let is = live a b h in
    (subst (λ n. a < n) (sym same) (some_within p.labels a is.0), subst (λ n. b < n) (sym same) (some_within p.labels b is.1))

-- as many lists as blocks
as_many : (lists : List (List ℕ)) (n m : ℕ) → lists ≡ replicate n none_list → n ≡ m → length lists ≡ m
as_many lists n m e same = ap length e ∙ length-replicate n none_list ∙ same

pub list_neighbours-requires-clause-from : goal.list_neighbours-requires-clause-from
list_neighbours-requires-clause-from c =
    all_below c.args.blocks.now c.args.supports.pairs c.in_ok-children.children.lists c.requires.live
    (as_many c.in_ok-children.children.lists _ _ c.in_ok-children.ensures (ap length c.deref.ensures.value ∙ c.in_ok-from.ensures.from ∙ c.span.ensures.span))

pub list_neighbours-requires-clause-onto : goal.list_neighbours-requires-clause-onto
list_neighbours-requires-clause-onto c =
    all_below c.args.blocks.now c.args.supports.pairs c.in_ok-parents.parents.lists c.requires.live
    (as_many c.in_ok-parents.parents.lists _ _ c.in_ok-parents.ensures (ap length c.deref-2.ensures.value ∙ c.in_ok-from.ensures.onto ∙ c.span.ensures.span))

pub list_neighbours-requires-clause-empty : goal.list_neighbours-requires-clause-empty
list_neighbours-requires-clause-empty c =
    neighbour_lists_none _ c.in_ok-children.children.lists c.in_ok-parents.parents.lists refl
    (λ a. ap (λ lists. list_at lists a) c.in_ok-children.ensures ∙ list_of_none _ a) (λ b. ap (λ lists. list_at lists b) c.in_ok-parents.ensures ∙ list_of_none _ b)
