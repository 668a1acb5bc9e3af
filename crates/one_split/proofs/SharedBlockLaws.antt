-- Nodes that are alone in their blocks are left out.
use Rattle.std.proofs.Common.{◌≡◌, ℕ, ◌≤◌, List, Option, Some, IsTrue, refl, sym, ◌∙◌, ap, subst, inl, inr, true, false, Bool, arith, count_by}
use Rattle.std.specs.Prelude.{nat_eq, not, ◌&&◌}
use Rattle.std.specs.List.{filter, sum_by}
use Rattle.std.proofs.lemmas.Bool.{cases_Bool, and_parts}
use Rattle.std.proofs.lemmas.Bool.Decides.{Decides-eqb}
use Rattle.std.proofs.lemmas.List.Filters.{sum_by-filter_both}
use Rattle.graph_spec.specs.Members.{at, has, is_this}
use Rattle.graph_spec.specs.Shapes.{shape_of, Shape, IsParent, IsShape}
use Rattle.bisim_spec.specs.Bisimilarity.{Covers}
use Rattle.bisim_spec.specs.Partitions.{Together, IsPartition}
use Rattle.bisim_spec.proofs.Bisimilar.{some_of}
use Rattle.one_spec.specs.Splits.{IsSplitInside}
use Rattle.graph_update.specs.PendingChanges.{Pending, graph_after}
use Rattle.quotient.specs.Quotients.{Quotient}
use Rattle.quotient_draft.specs.Drafts.{Drafted, shown_blocks}
use Rattle.one_split.specs.RoundStates.{IsRound}
use Rattle.one_split.specs.Counted.{is_shared, shares_block}
use Rattle.one_split.proofs.Apart.{alone_from}
use Rattle.one_split.proofs.Present.{has_filter}
use Rattle.one_split.proofs.Wholes.{only_member}

-- the test by the count
pub shared_block_at : (p : List (Option ℕ)) (n own count : ℕ) → at p n ≡ Some own → count ≡ count_by (is_this own) p → not (nat_eq count 1) ≡ shares_block p n
shared_block_at p n own count found is = ap (λ k. not (nat_eq k 1)) is ∙ ap (is_shared p) (sym found)

one_of : (p : List (Option ℕ)) (o : Option ℕ) (own : ℕ) → o ≡ Some own → is_shared p o ≡ false → count_by (is_this own) p ≡ 1
one_of p o own e off = (Decides-eqb (count_by (is_this own) p) 1).0 (true_of (nat_eq (count_by (is_this own) p) 1) (ap (is_shared p) (sym e) ∙ off))
  where
    true_of : (t : Bool) → not t ≡ false → t ≡ true
    true_of true h = refl
    true_of false h = absurd (cc)

-- a node alone in its block is together with itself alone
pub alone_same : (p : List (Option ℕ)) (u v : ℕ) → shares_block p u ≡ false → Together p u v → v ≡ u
alone_same p u v off t = alone_from p u t.0 t.1 (only_member p u t.0 t.1 (one_of p (at p u) t.0 t.1 off)) v (t.0, t.2, t.1)

-- each parent of a node is together with itself
self_covered : (s : Shape) (p : List (Option ℕ)) (u : ℕ) → IsShape s → IsPartition s p → Covers (IsParent s) (Together p) u u
self_covered s p u shape partition q e =
    let b = some_of (at p q) (partition.live q (shape.from q u e)) in
    (q, e, (b.0, b.1, b.1))

-- what is kept was there
pub kept_there : (p : List (Option ℕ)) (nodes kept : List ℕ) (n : ℕ) → kept ≡ filter (shares_block p) nodes → IsTrue (has kept n) → IsTrue (has nodes n)
kept_there p nodes kept n is h = (and_parts (has nodes n) (shares_block p n) (sym (ap (λ xs. has xs n) is ∙ has_filter (shares_block p) nodes n) ∙ h)).0

-- what isn't kept was not there, or is alone in its block
kept_off : (p : List (Option ℕ)) (nodes kept : List ℕ) (n : ℕ) → kept ≡ filter (shares_block p) nodes → has nodes n ≡ true → has kept n ≡ false → shares_block p n ≡ false
kept_off p nodes kept n is on h = off_right (has nodes n) (shares_block p n) on (sym (ap (λ xs. has xs n) is ∙ has_filter (shares_block p) nodes n) ∙ h)
  where
    off_right : (a b : Bool) → a ≡ true → (a && b) ≡ false → b ≡ false
    off_right true b e f = f
    off_right false b e f = absurd (cc)

-- splitting goes on at the nodes that share their blocks
pub split_kept : (s : Shape) (inside : ℕ → Bool) (first p : List (Option ℕ)) (nodes kept new_blocks : List ℕ) → IsShape s → kept ≡ filter (shares_block p) nodes
    → IsSplitInside s inside first p nodes new_blocks → IsSplitInside s inside first p kept new_blocks
split_kept s inside first p nodes kept new_blocks shape is a = record {
  stable = record {
    partition = a.stable.partition;
    label = λ u v hu hv t. a.labels u v t;
    parents = λ u v hu hv t. elim (cases_Bool (has nodes u)) [
      | inl on ↦ same u v (alone_same p u v (kept_off p nodes kept u is on hu) t)
      | inr off ↦ elim (cases_Bool (has nodes v)) [
        | inl on ↦ same u v (sym (alone_same p v u (kept_off p nodes kept v is on hv) (t.0, t.2, t.1)))
        | inr off2 ↦ a.stable.parents u v off off2 t
      ]
    ];
  };
  within = a.within;
  same = a.same;
  labels = a.labels;
  next_nodes = λ n h. a.next_nodes n (kept_there p nodes kept n is h);
  next_inside = λ n h. a.next_inside n (kept_there p nodes kept n is h);
  next_from = λ n h. a.next_from n (kept_there p nodes kept n is h);
  moved_new = a.moved_new;
  new_once = a.new_once;
  new_inside = a.new_inside;
  new_some = a.new_some;
}
  where
    same : (u v : ℕ) → v ≡ u → Covers (IsParent s) (Together p) u v
    same u v e = subst (Covers (IsParent s) (Together p) u) (sym e) (self_covered s p u shape a.stable.partition)

-- and so does a round
pub round_kept : (a : Pending) (base : Quotient) (d d2 : Drafted) (nodes kept new_blocks new_blocks2 next : List ℕ) → IsShape (shape_of (graph_after a)) → kept ≡ filter (shares_block (shown_blocks base d)) nodes
    → IsRound a base d d2 kept new_blocks new_blocks2 next → IsRound a base d d2 nodes new_blocks new_blocks2 next
round_kept a base d d2 nodes kept new_blocks new_blocks2 next shape is r = record {
  over = r.over;
  split = λ inside first closed split. r.split inside first closed (split_kept (shape_of (graph_after a)) inside first (shown_blocks base d) nodes kept new_blocks shape is split);
  once = r.once;
  block_labels = r.block_labels;
  blocks = r.blocks;
  supports = r.supports;
  least = r.least;
  more = r.more;
}

-- what is kept sums up to no more
pub kept_sum : (f : ℕ → ℕ) (q : ℕ → Bool) (nodes kept : List ℕ) → kept ≡ filter q nodes → sum_by f kept ≤ sum_by f nodes
kept_sum f q nodes kept is =
    let both = sum_by-filter_both q (λ x. not (q x)) (λ x. refl) f nodes in
    let e = ap (sum_by f) is in
    omega (arith, both, e)
