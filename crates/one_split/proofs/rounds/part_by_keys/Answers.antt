use Rattle.std.proofs.Common.{◌≡◌, ℕ, List, Option, length, arith, sym, ap, subst, rules, ◌∙◌}
use Rattle.graph_spec.specs.Graphs.{has_edge}
use Rattle.graph_spec.specs.Members.{at}
use Rattle.graph_spec.specs.Shapes.{shape_of}
use Rattle.one_spec.specs.BlockLabels.{BlocksHaveLabels}
use Rattle.one_spec.specs.EdgeCounts.{AreEdgeCounts}
use Rattle.graph_update.specs.PendingChanges.{graph_after}
use Rattle.quotient_draft.specs.Drafts.{shown_blocks, shown_labels, with_added, shown_support}
use Rattle.one_split.specs.Counted.{AreCounted}
use Rattle.one_split.specs.NodeTargetBlocks.{HaveGone}
use Rattle.one_split.proofs.RoundEnds.{set_distinct, next_set, more_or_none, owns, round_parts}
use Rattle.one_split.proofs.BlockLabels.{block_labels_step}
use Rattle.one_split.proofs.NextRound.{split_step}
use Rattle.one_split.proofs.rounds.part_by_keys.Goals as goal
use Rattle.bisim_spec.specs.Partitions.{IsPartition}

pub returns-in_err-numbers-clause-cost : goal.returns-in_err-numbers-clause-cost
returns-in_err-numbers-clause-cost g c =
    let parts = round_parts c.args.after.now c.args.nodes.now in
    let cost = c.number_nodes.ensures.cost in
    omega (arith, parts, cost)

pub returns-in_err-counts-clause-cost : goal.returns-in_err-counts-clause-cost
returns-in_err-counts-clause-cost g c =
    let parts = round_parts c.args.after.now c.args.nodes.now in
    let cost = c.number_nodes.ensures.cost in
    omega (arith, parts, cost)

pub find_target_blocks-requires-clause-keys : goal.find_target_blocks-requires-clause-keys
find_target_blocks-requires-clause-keys g c = λ k h.
    let o = owns (shown_blocks c.args.base.now c.args.draft.now) (has_edge (graph_after c.args.after.now)) c.number_nodes.new.keys c.args.nodes.now c.in_ok-numbers.numbers.items
    c.in_ok-numbers.ensures.numbered k h in
    (o.0, o.1, c.requires.live.some o.2.0 o.0 o.2.1)

pub returns-in_err-target_blocks-clause-cost : goal.returns-in_err-target_blocks-clause-cost
returns-in_err-target_blocks-clause-cost g c =
    let parts = round_parts c.args.after.now c.args.nodes.now in
    let cost = c.number_nodes.ensures.cost in
    omega (arith, parts, cost)

pub move_nodes-requires-clause-over : goal.move_nodes-requires-clause-over
move_nodes-requires-clause-over g c = c.in_ok-target_blocks.ensures.extends.over

pub move_nodes-requires-clause-partition : goal.move_nodes-requires-clause-partition
move_nodes-requires-clause-partition g c = subst (IsPartition (shape_of (graph_after c.args.after.now))) (sym c.in_ok-target_blocks.ensures.extends.stay) c.requires.partition

pub move_nodes-requires-clause-supports : goal.move_nodes-requires-clause-supports
move_nodes-requires-clause-supports g c =
    let more = c.in_ok-target_blocks.ensures.extends in
    subst (λ p. AreEdgeCounts (graph_after c.args.after.now) p (shown_support c.args.base.now c.find_target_blocks.new.draft)) (sym more.stay)
    (record { each = λ x y. more.supports x y ∙ c.requires.supports.each x y })

pub move_nodes-requires-clause-nodes : goal.move_nodes-requires-clause-nodes
move_nodes-requires-clause-nodes g c = record { there = c.requires.there; once = c.requires.once }

pub returns-in_err-next-clause-cost : goal.returns-in_err-next-clause-cost
returns-in_err-next-clause-cost g c =
    let parts = round_parts c.args.after.now c.args.nodes.now in
    let cost = c.number_nodes.ensures.cost in
    let moves = c.move_nodes.ensures.cost in
    omega (arith, parts, cost, moves)

pub returns-clause-cost : goal.returns-clause-cost
returns-clause-cost g c =
    let parts = round_parts c.args.after.now c.args.nodes.now in
    let cost = c.number_nodes.ensures.cost in
    let moves = c.move_nodes.ensures.cost in
    omega (arith, parts, cost, moves)

pub returns-clause-round : goal.returns-clause-round
returns-clause-round g c = record {
  over = c.in_ok-next.ensures.over;
  split = λ inside first closed split.
      let s = shape_of (graph_after c.args.after.now) in
      let nodes = c.args.nodes.now in
      let p = shown_blocks c.args.base.now c.args.draft.now in
      let p2 = shown_blocks c.args.base.now c.move_nodes.new.draft in
      let keys = c.number_nodes.new.keys in
      let numbers = c.in_ok-numbers.numbers.items in
      let target_blocks = c.in_ok-target_blocks.target_blocks.items in
      let counts = c.in_ok-counts.counts.entries in
      let counted : AreCounted p nodes counts = record { once = c.requires.once; each = c.in_ok-counts.ensures } in
      let numbered = c.in_ok-numbers.ensures.numbered in
      split_step s inside first p p2 keys nodes numbers c.args.new_blocks.now.items c.sort_dedup.new.numbers.items c.find_target_blocks.new.new_blocks.items target_blocks counts c.requires.shape closed split c.requires.once
      c.in_ok-numbers.ensures.count numbered c.in_ok-target_blocks.ensures.count counted c.in_ok-target_blocks.ensures.going
      (subst (λ x. HaveGone x p2 nodes numbers target_blocks (length nodes)) c.in_ok-target_blocks.ensures.extends.stay c.in_ok-next.ensures.gone)
      (next_set s nodes numbers target_blocks (length nodes) c.in_ok-next.next.items c.sort_dedup.new.numbers.items (record { rising = c.sort_dedup.ensures.rising; same = c.sort_dedup.ensures.same })
      c.in_ok-next.ensures.next)
      c.in_ok-target_blocks.ensures.from c.in_ok-target_blocks.ensures.new_blocks.once
      (λ k h. let o = owns p (has_edge (graph_after c.args.after.now)) keys nodes numbers numbered k h in (o.0, o.1));
  once = set_distinct c.in_ok-next.next.items c.sort_dedup.new.numbers.items (record { rising = c.sort_dedup.ensures.rising; same = c.sort_dedup.ensures.same });
  block_labels = λ node_labels block_labels.
      let s = shape_of (graph_after c.args.after.now) in
      let nodes = c.args.nodes.now in
      let p = shown_blocks c.args.base.now c.args.draft.now in
      let p2 = shown_blocks c.args.base.now c.move_nodes.new.draft in
      let numbers = c.in_ok-numbers.numbers.items in
      let target_blocks = c.in_ok-target_blocks.target_blocks.items in
      let gone = subst (λ x. HaveGone x p2 nodes numbers target_blocks (length nodes)) c.in_ok-target_blocks.ensures.extends.stay c.in_ok-next.ensures.gone in
      let labels : shown_labels c.args.base.now c.move_nodes.new.draft ≡ shown_labels c.args.base.now c.find_target_blocks.new.draft = ap (with_added c.args.base.now.blocks.labels) c.in_ok-next.ensures.added in
      subst (λ (ls : List (Option ℕ)). BlocksHaveLabels p2 (at ls) node_labels) (sym labels)
      (block_labels_step s p p2 c.number_nodes.new.keys nodes numbers target_blocks (at (shown_labels c.args.base.now c.args.draft.now)) (at (shown_labels c.args.base.now c.find_target_blocks.new.draft)) node_labels
      c.in_ok-numbers.ensures.count c.requires.once c.in_ok-numbers.ensures.numbered gone c.in_ok-target_blocks.ensures.labels c.in_ok-target_blocks.ensures.extends.kept block_labels);
  blocks = search rules;
  supports = c.in_ok-next.ensures.supports;
  least = c.in_ok-target_blocks.ensures.from.least;
  more =
      let s = shape_of (graph_after c.args.after.now) in
      let nodes = c.args.nodes.now in
      more_or_none s nodes c.in_ok-numbers.numbers.items c.in_ok-target_blocks.target_blocks.items (length nodes) c.sort_dedup.new.numbers.items c.args.new_blocks.now.items c.find_target_blocks.new.new_blocks.items
      (next_set s nodes c.in_ok-numbers.numbers.items c.in_ok-target_blocks.target_blocks.items (length nodes) c.in_ok-next.next.items c.sort_dedup.new.numbers.items
      (record { rising = c.sort_dedup.ensures.rising; same = c.sort_dedup.ensures.same }) c.in_ok-next.ensures.next)
      c.in_ok-target_blocks.ensures.from;
}
