-- Which blocks may still be merged, and with which.
use Rattle.std.proofs.Common.{◌≡◌, ◌≢◌, ℕ, ◌⊎◌, List, Option, Some, true, false, Bool, subst, inl, inr}
use Rattle.std.specs.Prelude.{◌&&◌}
use Rattle.std.proofs.lemmas.Bool.{cases_Bool, and_parts, and_from, both_ways, false_from_ne_true}
use Rattle.graph_spec.specs.Members.{at, is_this}
use Rattle.graph_spec.specs.Shapes.{Shape, IsShape}
use Rattle.bisim_spec.specs.Below.{any_below}
use Rattle.bisim_spec.specs.Partitions.{IsPartition}
use Rattle.bisim_spec.specs.Stability.{Mergeable, Minimal}
use Rattle.bisim_spec.proofs.BelowLaws.{any_get, none_get}
use Rattle.bisim_spec.proofs.Bisimilar.{is_some_at}
use Rattle.bisim_spec.proofs.Moves.{block_get, block_from}
use Rattle.bisim_spec.proofs.Together.{together_at, merged_cases}
use Rattle.bisim_spec.proofs.MergeableBlocks.{merges_from}
use Rattle.one_spec.specs.Merges.{IsMergeablePair, AreMergeCandidates, IsChildBlock}
use Rattle.one_spec.proofs.MergedPairs.{can_swap}

-- where none is left, no two blocks can be merged
pub minimal_from : (s : Shape) (p : List (Option ℕ)) → AreMergeCandidates s p (λ b. ⊥) → Minimal s p
minimal_from s p h = record {
  apart = λ u v a b eu ev ne can.
      elim (h.one a b (record { apart = ne; first = (u, eu); second = (v, ev); can = can })) [ inl x ↦ x | inr x ↦ x ];
}

-- a block that can't be merged with any is none any more
pub candidates_cleared : (s : Shape) (p : List (Option ℕ)) (among after : ℕ → Type 0) (c : ℕ) → IsPartition s p → AreMergeCandidates s p among
    → ((b : ℕ) → IsMergeablePair s p c b → ⊥) → ((b : ℕ) → among b → (b ≡ c) ⊎ after b) → AreMergeCandidates s p after
candidates_cleared s p among after c partition h none parts = record {
  one = λ a b can. elim (h.one a b can) [
    | inl x ↦ elim (parts a x) [
      | inl e ↦ absurd (none b (subst (λ m. IsMergeablePair s p m b) e can))
      | inr y ↦ inl y
    ]
    | inr x ↦ elim (parts b x) [
      | inl e ↦ absurd (none a (subst (λ m. IsMergeablePair s p m a) e (can_swap s p a b partition can)))
      | inr y ↦ inr y
    ]
  ];
}

-- whether the node is a marked member of the block
abbrev holds : List (Option ℕ) → (ℕ → Bool) → ℕ → ℕ → Bool
holds p marked b n = is_this b (at p n) && marked n

-- Where no two blocks with marked members can be merged, the merge candidates are the blocks without any.
pub unmarked_candidates : (s : Shape) (p : List (Option ℕ)) (marked : ℕ → Bool) → IsShape s → IsPartition s p
    → ((x y a b : ℕ) → marked x ≡ true → marked y ≡ true → at p x ≡ Some a → at p y ≡ Some b → a ≢ b → Mergeable s p a b → ⊥)
    → AreMergeCandidates s p (λ b. (n : ℕ) → at p n ≡ Some b → marked n ≡ false)
unmarked_candidates s p marked shape partition none = record {
  one = λ a b can. elim (cases_Bool (any_below s.size (holds p marked a))) [
    | inr off ↦ inl (unmarked a off)
    | inl on ↦ elim (cases_Bool (any_below s.size (holds p marked b))) [
      | inr off ↦ inr (unmarked b off)
      | inl on2 ↦ absurd (
          let x = any_get s.size (holds p marked a) on in
          let y = any_get s.size (holds p marked b) on2 in
          let f = and_parts (is_this a (at p x.0)) (marked x.0) x.2 in
          let g = and_parts (is_this b (at p y.0)) (marked y.0) y.2 in
          none x.0 y.0 a b f.1 g.1 (block_get a (at p x.0) f.0) (block_get b (at p y.0) g.0) can.apart can.can)
    ]
  ];
}
  where
    unmarked : (b : ℕ) → any_below s.size (holds p marked b) ≡ false → (n : ℕ) → at p n ≡ Some b → marked n ≡ false
    unmarked b off n e = false_from_ne_true (marked n) (λ t.
        both_ways (holds p marked b n) (none_get s.size (holds p marked b) off n (shape.below n (partition.only n (is_some_at (at p n) b e))))
        (and_from (is_this b (at p n)) (marked n) (block_from b (at p n) e) t))

-- With which block one can be merged: a parent block of it, or a child of each of its parent blocks.
pub shared_parent : (s : Shape) (p : List (Option ℕ)) (a b x : ℕ) → IsMergeablePair s p a b → IsChildBlock s p x a → x ≢ a → (b ≡ x) ⊎ IsChildBlock s p x b
shared_parent s p a b x can k ne =
    let y = can.second in
    let r = (merges_from s p a b k.onto y.0 can.can k.onto_at y.1).parents.there k.from k.edge in
    elim (merged_cases a b p k.from r.0 r.2) [
      | inl near ↦ inr (record { from = r.0; onto = y.0; edge = r.1; from_at = together_at p k.from r.0 x near k.from_at; onto_at = y.1 })
      | inr (inl (ef, er)) ↦ absurd (ne (let f = k.from_at in let z : x ≡ a = cc in z))
      | inr (inr (ef, er)) ↦ inl (let f = k.from_at in let z : b ≡ x = cc in z)
    ]

-- of a block that has no other parent block than itself: the other block has none but these two
pub shared_parent_alone : (s : Shape) (p : List (Option ℕ)) (a b x : ℕ) → IsMergeablePair s p a b → ((z : ℕ) → IsChildBlock s p z a → z ≡ a) → IsChildBlock s p x b
    → (x ≡ a) ⊎ (x ≡ b)
shared_parent_alone s p a b x can none k =
    let y = can.first in
    let r = (merges_from s p a b y.0 k.onto can.can y.1 k.onto_at).parents.back k.from k.edge in
    elim (merged_cases a b p k.from r.0 r.2) [
      | inl near ↦ inl (none x (record { from = r.0; onto = y.0; edge = r.1; from_at = together_at p k.from r.0 x near k.from_at; onto_at = y.1 }))
      | inr (inl (ef, er)) ↦ inl (let f = k.from_at in let z : x ≡ a = cc in z)
      | inr (inr (ef, er)) ↦ inr (let f = k.from_at in let z : x ≡ b = cc in z)
    ]
