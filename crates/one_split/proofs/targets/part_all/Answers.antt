use Rattle.std.proofs.Common.{◌+◌, ◌<◌, ℕ, Bool, length, arith, drop, refl, true}
use Rattle.std.specs.Prelude.{slice_index}
use Rattle.graph_spec.specs.Members.{at, has}
use Rattle.graph_spec.specs.Shapes.{shape_of}
use Rattle.label_graph.specs.GraphViews.{label_number}
use Rattle.graph_update.specs.PendingChanges.{graph_after}
use Rattle.quotient_draft.specs.Drafts.{shown_blocks, shown_labels}
use Rattle.one_split.specs.SplitCosts.{move_cost}
use Rattle.one_split.proofs.Apart.{blocks_none}
use Rattle.one_spec.proofs.Sums.{sum_next, sum_first}
use Rattle.one_split.proofs.RoundEnds.{set_distinct}
use Rattle.one_split.proofs.ListIndexes.{has_place}
use Rattle.one_split.proofs.Total.{closed_all}
use Rattle.one_split.proofs.Parted.{first_at, none_left, charged_more, parting_first, parting_done, block_labels_done}
use Rattle.one_split.proofs.targets.part_all.Goals as goal

pub loop-t-init : goal.loop-t-init
loop-t-init g c = record {
  over = c.requires.split.over;
  live = c.requires.live;
  parting = λ inside closed within.
      parting_first (shape_of (graph_after c.args.after.now)) inside (shown_blocks c.args.base.now c.args.draft.now) c.new-next.result.list.items c.args.new_blocks.now.items (λ n. has (drop 0 c.args.targets.now) n)
      c.new-next.ensures c.requires.split.none c.requires.split.stable;
  block_labels = c.requires.split.block_labels;
  supports = c.requires.split.supports;
  new_blocks = blocks_none (at (shown_labels c.args.base.now c.args.draft.now)) c.args.new_blocks.now.items c.requires.split.none;
  charged = λ w few. omega arith;
  cost = omega arith;
}

pub part_one-requires-clause-shown : goal.part_one-requires-clause-shown
part_one-requires-clause-shown g c = record {
  over = c.loop-t.invariant.over;
  shape = c.requires.shape;
  partition = (c.loop-t.invariant.parting (λ n. true) (closed_all (shape_of (graph_after c.args.after.now))) (λ n h. refl)).stable.partition;
  supports = c.loop-t.invariant.supports;
}

pub returns-in_err-part_one-clause-cost : goal.returns-in_err-part_one-clause-cost
returns-in_err-part_one-clause-cost g c =
    let first = sum_first (move_cost c.args.after.now) c.args.targets.now c.loop-t.t-index 0 c.loop-t-test.true in
    let so_far = c.loop-t.invariant.cost in
    let here = c.part_one.ensures.cost in
    omega (arith, first, so_far, here)

pub loop-t-preserved : goal.loop-t-preserved
loop-t-preserved g c =
    let targets = c.args.targets.now in
    let i = c.loop-t.t-index in
    let inv = c.loop-t.invariant in
    let ok = c.in_ok-part_one.ensures in
    let below : c.loop-t.t-index < length c.args.targets.now = c.loop-t-test.true in
    let first = first_at targets i c.requires.split.once below in
    let there = has_place targets i below in
    let rest : ℕ → Bool = λ n. has (drop i targets) n in
    let rest2 : ℕ → Bool = λ n. has (drop (i + 1) targets) n in
    let next = sum_next (move_cost c.args.after.now) targets i 0 below in
    let so_far = inv.cost in
    let here = c.part_one.ensures.cost in
    record {
      over = ok.over;
      live = ok.live;
      parting = λ inside closed within.
          ok.parting inside (shown_blocks c.args.base.now c.args.draft.now) rest rest2 closed (within (slice_index targets i) there) first (inv.parting inside closed within);
      block_labels = ok.block_labels rest rest2 first inv.block_labels;
      supports = ok.supports;
      new_blocks = ok.new_blocks;
      charged = λ w few.
          charged_more w (length c.loop-t.new_blocks.items) (length c.part_one.new.new_blocks.items) c.args.steps.now c.loop-t.steps c.part_one.new.steps (move_cost c.args.after.now (slice_index targets i))
          ok.charged (inv.charged w few) here (few (slice_index targets i) there);
      cost = omega (arith, next, so_far, here);
    }

pub returns-clause-split : goal.returns-clause-split
returns-clause-split g c = λ inside closed within.
    parting_done (shape_of (graph_after c.args.after.now)) inside (shown_blocks c.args.base.now c.args.draft.now) (shown_blocks c.args.base.now c.loop-t.draft) c.loop-t.next.list.items
    c.sort_dedup.new.numbers.items (λ n. has (drop c.loop-t.t-index c.args.targets.now) n) c.loop-t.new_blocks.items (none_left c.args.targets.now c.loop-t.t-index (omega arith)) c.sort_dedup.ensures.same
    (c.loop-t.invariant.parting inside closed within)

pub returns-clause-once : goal.returns-clause-once
returns-clause-once g c = set_distinct c.loop-t.next.list.items c.sort_dedup.new.numbers.items (record { rising = c.sort_dedup.ensures.rising; same = c.sort_dedup.ensures.same })

pub returns-clause-block_labels : goal.returns-clause-block_labels
returns-clause-block_labels g c =
    block_labels_done (shown_blocks c.args.base.now c.loop-t.draft) (at (shown_labels c.args.base.now c.loop-t.draft)) (label_number (graph_after c.args.after.now))
    (λ n. has (drop c.loop-t.t-index c.args.targets.now) n) (none_left c.args.targets.now c.loop-t.t-index (omega arith)) c.loop-t.invariant.block_labels
