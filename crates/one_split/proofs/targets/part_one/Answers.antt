use Rattle.std.proofs.Common.{◌≡◌, ℕ, List, Option, sym, ◌∙◌, ap, subst}
use Rattle.graph_spec.specs.Members.{at}
use Rattle.graph_spec.specs.Shapes.{shape_of}
use Rattle.bisim_spec.proofs.Bisimilar.{some_of, is_some_at}
use Rattle.bisim_spec.specs.Partitions.{IsPartition}
use Rattle.label_graph.specs.GraphViews.{label_number}
use Rattle.graph_update.specs.PendingChanges.{graph_after}
use Rattle.quotient_draft.specs.Drafts.{shown_blocks, shown_labels, with_added, shown_support}
use Rattle.one_spec.specs.BlockLabels.{BlocksHaveLabelsBut}
use Rattle.one_spec.specs.EdgeCounts.{AreEdgeCounts}
use Rattle.one_split.specs.NodeTargetBlocks.{AreBlocks}
use Rattle.one_split.proofs.Apart.{alone_from}
use Rattle.one_split.proofs.Parted.{part_stays, part_moves, apart_from, children_more, blocks_more, block_labels_alone, block_labels_moved}
use Rattle.one_split.proofs.Present.{labels_kept, told_some}
use Rattle.one_split.proofs.targets.part_one.Goals as goal

pub returns-then-is_apart-clause-parting : goal.returns-then-is_apart-clause-parting
returns-then-is_apart-clause-parting g c = λ inside first rest rest2 closed within is_first a.
    let p = shown_blocks c.args.base.now c.args.draft.now in
    part_stays (shape_of (graph_after c.args.after.now)) inside first p c.args.next.now.list.items rest rest2 c.args.new_blocks.now.items c.args.target c.requires.shown.shape
    (alone_from p c.args.target c.own_block-own.result c.own_block-own.ensures (c.is_apart.ensures.alone c.if-is_apart.true)) is_first a

pub returns-then-is_apart-clause-block_labels : goal.returns-then-is_apart-clause-block_labels
returns-then-is_apart-clause-block_labels g c = λ rest rest2 is_first block_labels.
    let labels : ℕ → Option ℕ = at (shown_labels c.args.base.now c.args.draft.now) in
    let own = c.own_block-own.result in
    let d = some_of (labels own) (c.requires.live.some c.args.target own c.own_block-own.ensures) in
    let label : labels own ≡ label_number (graph_after c.args.after.now) c.args.target = c.is_apart.ensures.label c.if-is_apart.true in
    block_labels_alone c.args.target own d.0 (shown_blocks c.args.base.now c.args.draft.now) labels (label_number (graph_after c.args.after.now)) rest rest2 c.own_block-own.ensures d.1
    (sym label ∙ d.1) is_first block_labels

pub move_node-requires-clause-partition : goal.move_node-requires-clause-partition
move_node-requires-clause-partition g c = subst (IsPartition (shape_of (graph_after c.args.after.now))) (sym c.in_ok-b.ensures.stay) c.requires.shown.partition

pub move_node-requires-clause-supports : goal.move_node-requires-clause-supports
move_node-requires-clause-supports g c =
    subst (λ p. AreEdgeCounts (graph_after c.args.after.now) p (shown_support c.args.base.now c.draft_block.new.draft)) (sym c.in_ok-b.ensures.stay)
    (record { each = λ x y. c.in_ok-b.ensures.supports x y ∙ c.requires.shown.supports.each x y })

pub returns-clause-new_blocks : goal.returns-clause-new_blocks
returns-clause-new_blocks g c =
    let labels : ℕ → Option ℕ = at (shown_labels c.args.base.now c.args.draft.now) in
    let labels2 : ℕ → Option ℕ = at (shown_labels c.args.base.now c.draft_block.new.draft) in
    let same : shown_labels c.args.base.now c.move_node.new.draft ≡ shown_labels c.args.base.now c.draft_block.new.draft = ap (with_added c.args.base.now.blocks.labels) c.move_node.ensures.added in
    let keep = labels_kept labels labels2 c.in_ok-b.b c.label.result c.in_ok-b.ensures.free c.in_ok-b.ensures.label in
    let some = is_some_at (labels2 c.in_ok-b.b) c.label.result (told_some labels labels2 c.in_ok-b.b c.label.result c.in_ok-b.ensures.label) in
    subst (λ (ls : List (Option ℕ)). AreBlocks (at ls) c.push.new.self.items) (sym same)
    (blocks_more labels labels2 c.args.new_blocks.now.items c.push.new.self.items c.in_ok-b.b c.requires.new_blocks c.in_ok-b.ensures.free keep some c.in_ok-push.ensures.items)

pub returns-clause-parting : goal.returns-clause-parting
returns-clause-parting g c = λ inside first rest rest2 closed within is_first a.
    let s = shape_of (graph_after c.args.after.now) in
    let p = shown_blocks c.args.base.now c.args.draft.now in
    let p2 = shown_blocks c.args.base.now c.move_node.new.draft in
    let labels : ℕ → Option ℕ = at (shown_labels c.args.base.now c.args.draft.now) in
    let labels2 : ℕ → Option ℕ = at (shown_labels c.args.base.now c.draft_block.new.draft) in
    let keep = labels_kept labels labels2 c.in_ok-b.b c.label.result c.in_ok-b.ensures.free c.in_ok-b.ensures.label in
    let some = is_some_at (labels2 c.in_ok-b.b) c.label.result (told_some labels labels2 c.in_ok-b.b c.label.result c.in_ok-b.ensures.label) in
    let blocks = blocks_more labels labels2 c.args.new_blocks.now.items c.push.new.self.items c.in_ok-b.b c.requires.new_blocks c.in_ok-b.ensures.free keep some c.in_ok-push.ensures.items in
    part_moves s inside first p p2 c.args.next.now.list.items c.add_children.new.self.list.items rest rest2 c.args.new_blocks.now.items c.push.new.self.items c.args.target c.in_ok-b.b c.requires.shown.shape closed within
    c.requires.node (apart_from p (shown_blocks c.args.base.now c.draft_block.new.draft) p2 c.args.target c.in_ok-b.b c.in_ok-b.ensures.empty c.in_ok-b.ensures.stay c.in_ok-move_node.ensures.moved)
    (children_more s c.args.target c.args.next.now.list.items c.add_children.new.self.list.items c.move_node.new.neighbours c.in_ok-move_node.ensures.children c.in_ok-add_children.ensures.list) c.in_ok-push.ensures.items blocks.once is_first a

pub returns-clause-block_labels : goal.returns-clause-block_labels
returns-clause-block_labels g c = λ rest rest2 is_first block_labels.
    let p = shown_blocks c.args.base.now c.args.draft.now in
    let p2 = shown_blocks c.args.base.now c.move_node.new.draft in
    let labels : ℕ → Option ℕ = at (shown_labels c.args.base.now c.args.draft.now) in
    let labels2 : ℕ → Option ℕ = at (shown_labels c.args.base.now c.draft_block.new.draft) in
    let node_labels = label_number (graph_after c.args.after.now) in
    let same : shown_labels c.args.base.now c.move_node.new.draft ≡ shown_labels c.args.base.now c.draft_block.new.draft = ap (with_added c.args.base.now.blocks.labels) c.move_node.ensures.added in
    let keep = labels_kept labels labels2 c.in_ok-b.b c.label.result c.in_ok-b.ensures.free c.in_ok-b.ensures.label in
    subst (λ (ls : List (Option ℕ)). BlocksHaveLabelsBut rest2 p2 (at ls) node_labels) (sym same)
    (block_labels_moved c.args.target c.in_ok-b.b c.label.result p (shown_blocks c.args.base.now c.draft_block.new.draft) p2 labels labels2 node_labels rest rest2 c.in_ok-b.ensures.stay c.in_ok-move_node.ensures.moved
    (told_some labels labels2 c.in_ok-b.b c.label.result c.in_ok-b.ensures.label) c.label.ensures.number keep is_first block_labels)
