-- One round more.
use Rattle.std.proofs.Common.{◌≡◌, ℕ, ◌<◌, List, length, Option, Some, None, IsTrue, sym, ◌∙◌, ap, subst, inl, inr, false, Bool, true≢false, arith}
use Rattle.std.specs.Prelude.{nat_eq, slice_index}
use Rattle.std.specs.List.{IsDistinct}
use Rattle.graph_spec.specs.Members.{at, has}
use Rattle.graph_spec.specs.Shapes.{Shape, IsParent, IsShape}
use Rattle.bisim_spec.specs.Partitions.{IsPartition}
use Rattle.bisim_spec.proofs.Bisimilar.{some_of, none_or_some, is_some_at}
use Rattle.one_spec.specs.SplitRoundSteps.{AreTargetBlocks}
use Rattle.one_spec.proofs.SplitRounds.{round_stable, same_but_moved, same_but_on, within_on}
use Rattle.one_spec.proofs.TargetBlocks.{is_moved, target_blocks_within, target_blocks_round, target_blocks_partition, target_blocks_left}
use Rattle.one_split.specs.Counted.{AreCounted}
use Rattle.one_split.specs.Numbered.{HaveNumbers}
use Rattle.one_split.specs.NodeTargetBlocks.{BeginsAt, AreGroupTargetBlocks, HaveGone, ListsChildrenOf, AreAdded}
use Rattle.one_spec.specs.Splits.{IsClosed, IsSplitInside}
use Rattle.one_split.proofs.ListIndexes.{place_in, place_found, has_place}
use Rattle.one_split.proofs.Groups.{group_of, target_block_of, target_block_looked, target_block_there, groups_go, node_of}

pub split_step : (s : Shape) (inside : ℕ → Bool) (first p p2 : List (Option ℕ)) (keys : List (List ℕ)) (nodes numbers new_blocks next2 new_blocks2 : List ℕ) (target_blocks : List (Option ℕ)) (counts : List (ℕ × ℕ))
    → IsShape s → IsClosed s inside → IsSplitInside s inside first p nodes new_blocks → IsDistinct nat_eq nodes → length numbers ≡ length nodes
    → HaveNumbers p s.edge keys nodes numbers → length target_blocks ≡ length keys → AreCounted p nodes counts → AreGroupTargetBlocks p counts keys target_blocks → HaveGone p p2 nodes numbers target_blocks (length nodes)
    → ListsChildrenOf s nodes numbers target_blocks (length nodes) next2 → AreAdded target_blocks new_blocks new_blocks2 → IsDistinct nat_eq new_blocks2 → ((k : ℕ) → k < length keys → (own : ℕ) × BeginsAt keys k own) → IsSplitInside s inside first p2 next2 new_blocks2
split_step s inside first p p2 keys nodes numbers new_blocks next2 new_blocks2 target_blocks counts shape closed split once count numbered many counted going gone next added once2 owns = record {
  stable =
      round_stable s p p2 (is_moved (target_block_of nodes numbers target_blocks)) (has next2) partition
      (target_blocks_round s p p2 (has nodes) (group_of nodes numbers) (target_block_of nodes numbers target_blocks) (has next2) split.stable g children);
  within = within_on first p p2 split.within (target_blocks_within s p p2 (has nodes) (group_of nodes numbers) (target_block_of nodes numbers target_blocks) g);
  same = same_but_on first p p2 inside split.same (same_but_moved p p2 (is_moved (target_block_of nodes numbers target_blocks)) inside
      (λ n h. g.kept n (none_of n h))
      (λ n h. let b = some_of (target_block_of nodes numbers target_blocks n) h in split.next_inside n (g.only n b.0 b.1)));
  labels = λ u v t. split.labels u v ((target_blocks_within s p p2 (has nodes) (group_of nodes numbers) (target_block_of nodes numbers target_blocks) g).within u v t);
  next_nodes = λ n h. let q = next.from n h in shape.onto (slice_index nodes q.0) n q.4;
  next_inside = λ n h.
      let q = next.from n h in
      closed.children (slice_index nodes q.0) n (split.next_inside (slice_index nodes q.0) (has_place nodes q.0 q.2)) q.4;
  next_from = λ n h.
      let q = next.from n h in
      (slice_index nodes q.0, split.next_inside (slice_index nodes q.0) (has_place nodes q.0 q.2), q.4);
  moved_new = λ n b e. elim (none_or_some (target_block_of nodes numbers target_blocks n)) [
    | inr (c, goes) ↦ (
        let f = target_block_looked nodes numbers target_blocks n c goes in
        let found = g.moved n c goes in
        let same : c ≡ b = cc in
        inl (added.holds (group_of nodes numbers n) b (f.1 ∙ ap (λ x. Some x) same)))
    | inl none ↦ elim (split.moved_new n b (sym (g.kept n none) ∙ e)) [ inl before ↦ inl (added.keeps b before) | inr there ↦ inr there ]
  ];
  new_once = once2;
  new_inside = λ b n h e. elim (none_or_some (target_block_of nodes numbers target_blocks n)) [
    | inr (c, goes) ↦ split.next_inside n (g.only n c goes)
    | inl none ↦ (
        let found : at p n ≡ Some b = sym (g.kept n none) ∙ e in
        elim (added.from b h) [
          | inl before ↦ split.new_inside b n before found
          | inr (k, l, goes) ↦ absurd (going.fresh k n b goes found)
        ])
  ];
  new_some = λ b h. elim (added.from b h) [
    | inl before ↦ (
        let n = split.new_some b before in
        let m = target_blocks_left s p p2 (has nodes) (group_of nodes numbers) (target_block_of nodes numbers target_blocks) g n.0 b n.1 in
        (m.0, m.2))
    | inr (k, l, goes) ↦ (
        let below : k < length keys = omega (arith, l, many) in
        let own = owns k below in
        let n = node_of s p keys nodes numbers count once numbered k own.0 below own.1 in
        (n.0, g.moved n.0 b (target_block_there nodes numbers target_blocks n.0 n.1 ∙ ap (at target_blocks) n.2 ∙ goes)))
  ];
}
  where
    g : AreTargetBlocks s p p2 (has nodes) (group_of nodes numbers) (target_block_of nodes numbers target_blocks)
    g = groups_go s p keys nodes numbers count once numbered p2 target_blocks counts shape split.stable.partition split.labels many counted going gone

    none_of : (n : ℕ) → is_moved (target_block_of nodes numbers target_blocks) n ≡ false → target_block_of nodes numbers target_blocks n ≡ None
    none_of n h = elim (none_or_some (target_block_of nodes numbers target_blocks n)) [
      | inl e ↦ e
      | inr (b, e) ↦ absurd (true≢false (sym (is_some_at (target_block_of nodes numbers target_blocks n) b e) ∙ h))
    ]

    partition : IsPartition s p2
    partition = target_blocks_partition s p p2 (has nodes) (group_of nodes numbers) (target_block_of nodes numbers target_blocks) g split.next_nodes split.stable.partition

    children : (q n : ℕ) → IsTrue (is_moved (target_block_of nodes numbers target_blocks) q) → IsParent s q n → IsTrue (has next2 n)
    children q n h e =
        let b = some_of (target_block_of nodes numbers target_blocks q) h in
        let f = target_block_looked nodes numbers target_blocks q b.0 b.1 in
        let r = place_found nodes q f.0 in
        next.into (place_in nodes q) b.0 n r.0 f.1 (subst (λ m. IsParent s m n) (sym r.1) e)
