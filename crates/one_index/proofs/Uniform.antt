-- A partition is stable exactly where the members of each block are alike.
use Rattle.std.proofs.Common.{◌≡◌, ℕ, ◌<◌, ◌≤◌, List, length, arith, Option, None, Some, IsSome, is_some, refl, sym, ◌∙◌, ap, inl, inr, true, false, Bool, not, true≢false}
use mathlib.Core.Bool.{beq}
use Rattle.std.specs.Prelude.{option_and_then, slice_get}
use Rattle.std.specs.List.{list_all}
use Rattle.std.proofs.lemmas.Bool.{cases_Bool, both_ways}
use Rattle.graph_spec.proofs.GraphLaws.{is_shape}
use Rattle.graph_spec.specs.Graphs.{Graph, IsGraph, label_of}
use Rattle.graph_spec.specs.Shapes.{Shape, IsNode, IsParent, shape_of}
use Rattle.graph_spec.specs.Members.{Lists, at, has}
use Rattle.label_graph.specs.GraphViews.{label_number, is_linked}
use Rattle.label_graph.proofs.Viewed.{viewed_shape, linked_is}
use Rattle.bisim_spec.specs.Bisimilarity.{Covers}
use Rattle.bisim_spec.specs.Partitions.{IsPartition, Together}
use Rattle.bisim_spec.specs.Stability.{Stable}
use Rattle.bisim_spec.proofs.Bisimilar.{none_or_some, is_some_at, matched_sym, matched_trans}
use Rattle.bisim_spec.proofs.Stable.{stable_label, stable_parents}
use Rattle.bisim_spec.proofs.Together.{together_sym, together_trans, block_below}
use Rattle.bisim_spec.proofs.Moves.{block_get, block_from}
use Rattle.block_partition.specs.LabelledPartitions.{Partition, is_member}
use Rattle.quotient.specs.Quotients.{Quotient}
use Rattle.quotient.specs.DigraphLaws.{below_span}
use Rattle.one_index.specs.Alike.{AreAlike, IsUniform, is_among}
use Rattle.one_index.proofs.Neighbours.{all_get, all_from, any_get, any_from}

-- what the view of a graph shows

pub label_shown : (g : Graph) → IsGraph g → (n : ℕ) → option_and_then (λ l. slice_get g.seen l) (label_number g n) ≡ label_of g n
label_shown g graph n = ap (λ (s : Shape). s.label n) (viewed_shape g graph)

pub node_number : (g : Graph) → IsGraph g → (n : ℕ) → IsNode (shape_of g) n → IsSome (label_number g n)
node_number g graph n node = elim (none_or_some (label_number g n)) [
  | inl e ↦ absurd (true≢false (sym node ∙ ap is_some (sym (label_shown g graph n)) ∙ ap (λ o. is_some (option_and_then (λ l. slice_get g.seen l) o)) e))
  | inr (l, e) ↦ is_some_at (label_number g n) l e
]

pub node_same : (g : Graph) → IsGraph g → (n : ℕ) → is_some (label_number g n) ≡ is_some (label_of g n)
node_same g graph n = elim (none_or_some (label_of g n)) [
  | inl e ↦ rw e refl
  | inr (t, e) ↦ (let node = is_some_at (label_of g n) t e in node_number g graph n node ∙ sym node)
]

pub label_known : (g : Graph) → IsGraph g → (u v : ℕ) → label_number g u ≡ label_number g v → label_of g u ≡ label_of g v
label_known g graph u v e = sym (label_shown g graph u) ∙ ap (option_and_then (λ l. slice_get g.seen l)) e ∙ label_shown g graph v

-- nodes that are in one block with one of some others

among_get : (p : Partition) (others : List ℕ) (o : Option ℕ) → is_among p others o ≡ true
    → (b : ℕ) × (o ≡ Some b) × (q : ℕ) × (has others q ≡ true) × (at p.block_of q ≡ Some b)
among_get p others None h = absurd (true≢false (sym h))
among_get p others (Some b) h = let q = any_get (is_member p b) others h in (b, refl, q.0, q.1, block_get b (at p.block_of q.0) q.2)

among_from : (p : Partition) (others : List ℕ) (o : Option ℕ) (b q : ℕ) → o ≡ Some b → has others q ≡ true → at p.block_of q ≡ Some b → is_among p others o ≡ true
among_from p others o b q e h k = rw e (any_from (is_member p b) others q h (block_from b (at p.block_of q) k))

-- a list of parents that are matched covers all of them
pub covers_get : (g : Graph) → IsGraph g → (p : Partition) (u v : ℕ) (nodes others : List ℕ) → Lists (λ n. is_linked g n u) nodes → Lists (λ n. is_linked g n v) others
    → list_all (λ n. is_among p others (at p.block_of n)) nodes ≡ true → Covers (IsParent (shape_of g)) (Together p.block_of) u v
covers_get g graph p u v nodes others near there h n e =
    let listed : has nodes n ≡ true = near.members n ∙ linked_is g graph n u ∙ e in
    let q = among_get p others (at p.block_of n) (all_get (λ n. is_among p others (at p.block_of n)) nodes n h listed) in
    (q.2, sym (linked_is g graph q.2 v) ∙ sym (there.members q.2) ∙ q.3, (q.0, q.1, q.4))

pub covers_from : (g : Graph) → IsGraph g → (p : Partition) (u v : ℕ) (nodes others : List ℕ) → Lists (λ n. is_linked g n u) nodes → Lists (λ n. is_linked g n v) others
    → Covers (IsParent (shape_of g)) (Together p.block_of) u v → list_all (λ n. is_among p others (at p.block_of n)) nodes ≡ true
covers_from g graph p u v nodes others near there covers =
    all_from (λ n. is_among p others (at p.block_of n)) nodes (λ n listed.
    let q = covers n (sym (linked_is g graph n u) ∙ sym (near.members n) ∙ listed) in
    among_from p others (at p.block_of n) q.2.0 q.0 q.2.1 (there.members q.0 ∙ linked_is g graph q.0 v ∙ q.1) q.2.2)

-- likeness

alike_sym : (s : Shape) (block : List (Option ℕ)) (u v : ℕ) → AreAlike s block u v → AreAlike s block v u
alike_sym s block u v h = record { label = sym h.label; parents = matched_sym h.parents }

alike_trans : (s : Shape) (block : List (Option ℕ)) (u v w : ℕ) → AreAlike s block u v → AreAlike s block v w → AreAlike s block u w
alike_trans s block u v w h k = record { label = h.label ∙ k.label; parents = matched_trans (together_trans block) h.parents k.parents }

-- members that are like one of them are alike
pub uniform_from : (s : Shape) (block : List (Option ℕ)) (b first : ℕ) → ((n : ℕ) → at block n ≡ Some b → AreAlike s block first n) → IsUniform s block b
uniform_from s block b first like = record { alike = λ u v hu hv. alike_trans s block u first v (alike_sym s block first u (like u hu)) (like v hv) }

pub uniform_none : (s : Shape) (block : List (Option ℕ)) (b : ℕ) → ((n : ℕ) → at block n ≡ Some b → ⊥) → IsUniform s block b
uniform_none s block b none = record { alike = λ u v hu hv. absurd (none u hu) }

-- a partition whose blocks are uniform is stable, and no other is
pub stable_from : (s : Shape) (block : List (Option ℕ)) → IsPartition s block → ((n b : ℕ) → at block n ≡ Some b → IsUniform s block b) → Stable s block
stable_from s block partition uniform = record {
  partition = partition;
  label = λ u v nu nv t. ((uniform u t.0 t.1).alike u v t.1 t.2).label;
  parents = λ u v nu nv t. ((uniform u t.0 t.1).alike u v t.1 t.2).parents.there;
}

pub stable_uniform : (s : Shape) (block : List (Option ℕ)) (b : ℕ) → Stable s block → IsUniform s block b
stable_uniform s block b stable = record {
  alike = λ u v hu hv.
      let t : Together block u v = (b, hu, hv) in
      record {
        label = stable_label s block stable u v t;
        parents = record { there = stable_parents s block stable u v t; back = stable_parents s block stable v u (together_sym block u v t) };
      };
}

-- exactly the nodes have a block

pub tests_same : (a b : Bool) → not (beq a b) ≡ false → a ≡ b
tests_same true true h = refl
tests_same true false h = absurd (true≢false h)
tests_same false true h = absurd (true≢false h)
tests_same false false h = refl

pub tests_apart : (a b : Bool) → not (beq a b) ≡ true → a ≡ b → ⊥
tests_apart true true h e = true≢false (sym h)
tests_apart true false h e = true≢false e
tests_apart false true h e = true≢false (sym e)
tests_apart false false h e = true≢false (sym h)

pub partition_same : (s : Shape) (block : List (Option ℕ)) → IsPartition s block → (n : ℕ) → is_some (at block n) ≡ is_some (s.label n)
partition_same s block p n = elim (cases_Bool (is_some (s.label n))) [
  | inl node ↦ p.live n node ∙ sym node
  | inr none ↦ elim (cases_Bool (is_some (at block n))) [
    | inl has ↦ absurd (both_ways (is_some (s.label n)) none (p.only n has))
    | inr free ↦ free ∙ sym none
  ]
]

-- if so below a number from which on there are none of either
pub partition_from : (g : Graph) → IsGraph g → (block : List (Option ℕ)) (most : ℕ) → length g.allocated ≤ most → length block ≤ most
    → ((n : ℕ) → n < most → is_some (at block n) ≡ is_some (label_of g n)) → IsPartition (shape_of g) block
partition_from g graph block most allocated longest same = record {
  live = λ n node. let below = (is_shape g graph).below n node in same n (omega (arith, below, allocated)) ∙ node;
  only = λ n has. let below = block_below block n has in sym (same n (omega (arith, below, longest))) ∙ has;
}

-- the blocks of a partition are uniform where all those below the bound are
pub stable_below : (g : Graph) (q : Quotient) (bound : ℕ) → bound ≡ length q.blocks.labels → IsPartition (shape_of g) q.blocks.block_of
    → ((n b : ℕ) → at q.blocks.block_of n ≡ Some b → IsSome (at q.blocks.labels b))
    → ((b : ℕ) → b < bound → IsSome (at q.blocks.labels b) → IsUniform (shape_of g) q.blocks.block_of b) → Stable (shape_of g) q.blocks.block_of
stable_below g q bound end partition live uniform =
    stable_from (shape_of g) q.blocks.block_of partition (λ n b h.
    let block = live n b h in
    let below = below_span q b block in
    uniform b (omega (arith, below, end)) block)
