use Rattle.std.proofs.Common.{◌≡◌, ℕ, Bool, List, arith, sym, subst}
use Rattle.block_splitting.specs.Groups.{AreGrouped}
use Rattle.block_splitting.proofs.Keyed.{ready, neighbour_keys, can_part}
use Rattle.block_splitting.proofs.SplitLaws.{parts_from, split_of, more_of, labelled_of, inhabited_of}
use Rattle.block_splitting.proofs.splitting.split.Goals as goal

grouped_by : (K : ℕ → List ℕ → Type 0) (seen : ℕ → Bool) (keys table : List (List ℕ)) (group : List ℕ) → table ≡ keys → AreGrouped K seen keys group → AreGrouped K seen table group
grouped_by K seen keys table group same = subst (λ ks. AreGrouped K seen ks group) (sym same)

pub group_nodes-requires-clause-ready : goal.group_nodes-requires-clause-ready
group_nodes-requires-clause-ready c = ready _ _ _ _ _ c.nodes-nodes.ensures c.requires.partition c.requires.nodes c.requires.reserved

pub part-requires : goal.part-requires
part-requires c = record {
  can = can_part _ _ c.args.blocks.now _ _ _ _ _ _ c.nodes-nodes.ensures c.deref.ensures.value (neighbour_keys _ c.requires.graph _ _ c.requires.partition)
      (ready _ _ _ _ _ c.nodes-nodes.ensures c.requires.partition c.requires.nodes c.requires.reserved) (let a = c.in_ok-group_nodes.ensures.length in let ok = c.group_nodes.new.group.ok in omega (arith, a, ok))
      c.span-known.ensures.live (grouped_by _ _ _ _ _ c.table.ensures c.in_ok-group_nodes.ensures.grouped);
}

pub returns-clause-split : goal.returns-clause-split
returns-clause-split c =
    split_of _ c.requires.graph _ c.args.blocks.now c.part.new.blocks _ _ _ _ c.requires.partition
    (parts_from _ c.args.blocks.now c.part.new.blocks _ _ _ _ _ _ c.nodes-nodes.ensures c.deref.ensures.value (neighbour_keys _ c.requires.graph _ _ c.requires.partition) c.span-known.ensures.live (grouped_by _ _ _ _ _ c.table.ensures c.in_ok-group_nodes.ensures.grouped) c.in_ok-moved.ensures.parted)

pub returns-clause-more : goal.returns-clause-more
returns-clause-more c =
    more_of _ c.args.blocks.now c.part.new.blocks _ _ _ _
    (parts_from _ c.args.blocks.now c.part.new.blocks _ _ _ _ _ _ c.nodes-nodes.ensures c.deref.ensures.value (neighbour_keys _ c.requires.graph _ _ c.requires.partition) c.span-known.ensures.live (grouped_by _ _ _ _ _ c.table.ensures c.in_ok-group_nodes.ensures.grouped) c.in_ok-moved.ensures.parted)

pub returns-clause-labelled : goal.returns-clause-labelled
returns-clause-labelled c =
    labelled_of _ _ c.args.blocks.now c.part.new.blocks _ _ _ _
    (parts_from _ c.args.blocks.now c.part.new.blocks _ _ _ _ _ _ c.nodes-nodes.ensures c.deref.ensures.value (neighbour_keys _ c.requires.graph _ _ c.requires.partition) c.span-known.ensures.live (grouped_by _ _ _ _ _ c.table.ensures c.in_ok-group_nodes.ensures.grouped) c.in_ok-moved.ensures.parted)

pub returns-clause-inhabited : goal.returns-clause-inhabited
returns-clause-inhabited c =
    inhabited_of _ c.args.blocks.now c.part.new.blocks _ _ _ _
    (parts_from _ c.args.blocks.now c.part.new.blocks _ _ _ _ _ _ c.nodes-nodes.ensures c.deref.ensures.value (neighbour_keys _ c.requires.graph _ _ c.requires.partition) c.span-known.ensures.live (grouped_by _ _ _ _ _ c.table.ensures c.in_ok-group_nodes.ensures.grouped) c.in_ok-moved.ensures.parted)
