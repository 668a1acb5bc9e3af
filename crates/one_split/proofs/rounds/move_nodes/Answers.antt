use Rattle.std.proofs.Common.{◌≡◌, ◌<◌, length, arith, subst, ◌∙◌}
use Rattle.graph_spec.specs.Members.{at}
use Rattle.std.specs.Prelude.{slice_index}
use Rattle.graph_spec.specs.Shapes.{shape_of}
use Rattle.graph_update.specs.PendingChanges.{graph_after}
use Rattle.quotient_draft.specs.Drafts.{shown_blocks}
use Rattle.one_split.specs.SplitCosts.{move_cost}
use Rattle.one_split.specs.NodeTargetBlocks.{HaveGone}
use Rattle.one_spec.proofs.Sums.{sum_next, sum_first}
use Rattle.one_split.proofs.Gone.{OneMoved, OneListed, gone_more, next_more}
use Rattle.one_split.proofs.ListIndexes.{has_place}
use Rattle.one_split.proofs.Present.{partition_moved}
use Rattle.one_split.proofs.rounds.move_nodes.Goals as goal

pub loop-i-preserved : goal.loop-i-preserved
loop-i-preserved g c =
    let s = shape_of (graph_after c.args.after.now) in
    let q = shown_blocks c.args.base.now c.loop-i.draft in
    let q2 = shown_blocks c.args.base.now c.move_one.new.draft in
    let nodes = c.args.nodes.now in
    let numbers = c.args.groups.now.numbers.items in
    let target_blocks = c.args.groups.now.target_blocks.items in
    let i = c.loop-i.i in
    let inv = c.loop-i.invariant in
    let ok = c.in_ok-move_one.ensures in
    let below : c.loop-i.i < length c.args.nodes.now = omega arith in
    let is : c.target_block_of-target_block.result ≡ at target_blocks (slice_index numbers i) = c.target_block_of-target_block.ensures in
    let moved : OneMoved (slice_index nodes i) c.target_block_of-target_block.result q q2 = record { blocks = ok.moved } in
    let listed : OneListed s (slice_index nodes i) c.target_block_of-target_block.result c.loop-i.next.list.items c.move_one.new.next.list.items = record { members = ok.next } in
    let next = sum_next (move_cost c.args.after.now) nodes i 0 below in
    let so_far = inv.cost in
    let here = c.move_one.ensures.cost in
    record {
      over = ok.over;
      partition = partition_moved s q q2 (slice_index nodes i) c.target_block_of-target_block.result inv.partition (c.requires.nodes.there (slice_index nodes i) (has_place nodes i below)) ok.moved;
      gone = gone_more (shown_blocks c.args.base.now c.args.draft.now) q q2 nodes numbers target_blocks i c.requires.nodes.once below inv.gone (subst (λ o. OneMoved (slice_index nodes i) o q q2) is moved);
      next = next_more s nodes numbers target_blocks i c.loop-i.next.list.items c.move_one.new.next.list.items inv.next
          (subst (λ o. OneListed s (slice_index nodes i) o c.loop-i.next.list.items c.move_one.new.next.list.items) is listed);
      supports = ok.supports;
      added = c.move_one.ensures.added ∙ inv.added;
      cost = omega (arith, next, so_far, here);
    }

pub returns-in_err-move_one-clause-cost : goal.returns-in_err-move_one-clause-cost
returns-in_err-move_one-clause-cost g c =
    let below : c.loop-i.i < length c.args.nodes.now = omega arith in
    let first = sum_first (move_cost c.args.after.now) c.args.nodes.now c.loop-i.i 0 below in
    let so_far = c.loop-i.invariant.cost in
    let here = c.move_one.ensures.cost in
    omega (arith, first, so_far, here)

pub returns-clause-gone : goal.returns-clause-gone
returns-clause-gone g c =
    let end : c.loop-i.i ≡ length c.args.nodes.now = omega arith in
    subst (HaveGone (shown_blocks c.args.base.now c.args.draft.now) (shown_blocks c.args.base.now c.loop-i.draft) c.args.nodes.now c.args.groups.now.numbers.items c.args.groups.now.target_blocks.items) end c.loop-i.invariant.gone
