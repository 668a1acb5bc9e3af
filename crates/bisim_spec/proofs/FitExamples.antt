-- What fits, at small graphs and near misses.
use Rattle.std.proofs.Common.{◌≡◌, ℕ, ◌<◌, zero, suc, false, List, [], ◌∷◌, Option, Some, None, IsSome, refl, sym, ◌∙◌, ap, subst, arith, true≢false, unwrap_or, slice_get}
use Rattle.std.specs.Prelude.{codes}
use Rattle.std.specs.FinSet as set
use Rattle.std.specs.FinMap as table
use Rattle.graph_spec.specs.Graphs.{Graph, edge_cmp, label_of}
use Rattle.graph_spec.specs.Members.{at}
use Rattle.graph_spec.specs.Shapes.{Shape, IsNode, IsParent, IsShape, shape_of}
use Rattle.graph_spec.proofs.EdgeOrder.{edge_cmp_total}
use Rattle.bisim_spec.specs.declared.kind.Kind.TheVariants.{A, One, Fb}
use Rattle.bisim_spec.specs.Bisimilarity.{Bis, FB}
use Rattle.bisim_spec.specs.Partitions.{Together, Agrees}
use Rattle.bisim_spec.specs.Stability.{Stable, Minimal}
use Rattle.bisim_spec.specs.Supports.{joins, edges_between}
use Rattle.bisim_spec.specs.IndexGraphs.{View, ViewFits, support_at}
use Rattle.bisim_spec.specs.Fits.{Fits, FitsAt, view_at, view_count}
use Rattle.bisim_spec.proofs.EdgeSets.{kept, same_len}
use Rattle.bisim_spec.proofs.Ranks.{acyclic_full}
use Rattle.bisim_spec.proofs.StabilityTests.{partition_decides, stable_decides, minimal_decides}
use Rattle.bisim_spec.proofs.WrittenShapes.{shape_of_list, shape_from}
use Rattle.bisim_spec.proofs.WrittenGraphs.{graph_from, shape_from_list}
use Rattle.bisim_spec.proofs.Examples.{refuted, level_decides, fb_full_decides}

-- nodes n0 and n1 were added, and n1 is gone
abbrev one_left : Graph
one_left = record { allocated = Some (codes "a") ∷ None ∷ []; edges = set.empty; seen = codes "a" ∷ [] }

-- the view of the forward and backward index may be not computed, and no other one
not_computed : (g : Graph) → Fits Fb (None ∷ []) g
not_computed g = record { count = refl; each = at_each }
  where
    at_each : (i : ℕ) → i < 1 → FitsAt Fb g i (view_at (None ∷ []) i)
    at_each zero h = tt
    at_each (suc i) h = absurd (omega (arith, h))

one_is_computed : (g : Graph) → Fits One (None ∷ []) g → ⊥
one_is_computed g h = h.each 0 (omega arith)

levels_are_computed : (g : Graph) → Fits A (None ∷ []) g → ⊥
levels_are_computed g h = h.each 0 (omega arith)

-- each kind has a view
no_level : (g : Graph) → Fits A [] g → ⊥
no_level g h = let few = h.count in omega (arith, few)

no_view : (g : Graph) → Fits Fb [] g → ⊥
no_view g h = let few = h.count in omega (arith, few)

two_views : (g : Graph) → Fits Fb (None ∷ None ∷ []) g → ⊥
two_views g h = let many = h.count in omega (arith, many)

-- up to level 2 there are three levels
three_levels : view_count A 2 ≡ 3
three_levels = refl

one_view : view_count One 2 ≡ 1
one_view = refl

-- a view of one block, of the one node that is left

abbrev one_block : View
one_block = record { block_of = Some 0 ∷ []; labels = Some 0 ∷ []; supports = table.empty }

no_edge : (p n : ℕ) → IsParent (shape_of one_left) p n → ⊥
no_edge p n e = true≢false (sym e ∙ set.contains-empty edge_cmp (p, n))

left_shape : IsShape (shape_of one_left)
left_shape = record { below = below; from = λ u v e. absurd (no_edge u v e); onto = λ u v e. absurd (no_edge u v e) }
  where
    below : (n : ℕ) → IsNode (shape_of one_left) n → n < 2
    below zero h = omega arith
    below (suc zero) h = omega arith
    below (suc (suc n)) h = absurd (true≢false (sym h))

-- two nodes in one block are the node that is left
only_one : (u v : ℕ) → Together one_block.block_of u v → (u ≡ 0) × (v ≡ 0)
only_one zero zero t = (refl, refl)
only_one zero (suc v) (b, hu, hv) = absurd (cc)
only_one (suc u) v (b, hu, hv) = absurd (cc)

one_counts : (a b : ℕ) → support_at one_block.supports a b ≡ edges_between one_left.edges one_block.block_of a b
one_counts a b =
    ap (λ o. unwrap_or o 0) (table.get-empty edge_cmp (a, b))
    ∙ sym (same_len (set.retain set.empty (joins one_block.block_of a b)) set.empty (λ k.
    kept set.empty (joins one_block.block_of a b) k ∙ rw (set.contains-empty edge_cmp k) refl) ∙ set.len-empty edge_cmp)

one_fits : ViewFits one_left one_block
one_fits = record { inhabited = inhabited; labelled = labelled; supports = one_counts }
  where
    inhabited : (b : ℕ) → IsSome (at one_block.labels b) → (n : ℕ) × (at one_block.block_of n ≡ Some b)
    inhabited zero h = (0, refl)
    inhabited (suc b) h = absurd (true≢false (sym h))

    labelled : (n b : ℕ) → at one_block.block_of n ≡ Some b
        → (l : ℕ) × (t : List ℕ) × (at one_block.labels b ≡ Some l) × (slice_get one_left.seen l ≡ Some t) × (label_of one_left n ≡ Some t)
    labelled zero zero h = (0, codes "a", refl, refl, refl)
    labelled zero (suc b) h = absurd (cc)
    labelled (suc n) b h = absurd (cc)

one_level : Fits A (Some one_block ∷ []) one_left
one_level = record { count = omega arith; each = at_each }
  where
    at_each : (i : ℕ) → i < 1 → FitsAt A one_left i (view_at (Some one_block ∷ []) i)
    at_each zero h = record { view = one_fits; agrees = (level_decides (shape_of one_left) left_shape one_block.block_of 0).0 refl }
    at_each (suc i) h = absurd (omega (arith, h))

-- its shape, without the set of edges
abbrev bare : Shape
bare = record { size = 2; label = label_of one_left; edge = λ u v. false }

bare_is : bare ≡ shape_of one_left
bare_is i = record { size = 2; label = label_of one_left; edge = λ u v. sym (set.contains-empty edge_cmp (u, v)) i }

bare_shape : IsShape bare
bare_shape = subst IsShape (sym bare_is) left_shape

-- a family of two levels, and one of which a level is missing
two_levels : Fits A (Some one_block ∷ Some one_block ∷ []) one_left
two_levels = record { count = omega arith; each = at_each }
  where
    at_each : (i : ℕ) → i < 2 → FitsAt A one_left i (view_at (Some one_block ∷ Some one_block ∷ []) i)
    at_each zero h = record { view = one_fits; agrees = (level_decides (shape_of one_left) left_shape one_block.block_of 0).0 refl }
    at_each (suc zero) h = record { view = one_fits; agrees = subst (λ s. Agrees s one_block.block_of (Bis s 1)) bare_is ((level_decides bare bare_shape one_block.block_of 1).0 refl) }
    at_each (suc (suc i)) h = absurd (omega (arith, h))

second_missing : Fits A (Some one_block ∷ None ∷ []) one_left → ⊥
second_missing h = h.each 1 (omega arith)

-- the forward and backward index, once it is computed
computed : Fits Fb (Some one_block ∷ []) one_left
computed = record { count = refl; each = at_each }
  where
    at_each : (i : ℕ) → i < 1 → FitsAt Fb one_left i (view_at (Some one_block ∷ []) i)
    at_each zero h = record { view = one_fits; agrees = subst (λ s. Agrees s one_block.block_of (FB s)) bare_is ((fb_full_decides bare bare_shape one_block.block_of).0 refl) }
    at_each (suc i) h = absurd (omega (arith, h))

one_stable : Stable (shape_of one_left) one_block.block_of
one_stable = record {
  partition = (partition_decides (shape_of one_left) left_shape one_block.block_of).0 refl;
  label = λ u v nu nv t. let same = only_one u v t in ap (label_of one_left) (same.0 ∙ sym same.1);
  parents = λ u v nu nv t p e. absurd (no_edge p u e);
}

one_minimal : Minimal (shape_of one_left) one_block.block_of
one_minimal = record { apart = λ u v a b hu hv ne can. ne (only u a hu ∙ sym (only v b hv)) }
  where
    only : (n b : ℕ) → at one_block.block_of n ≡ Some b → b ≡ 0
    only zero b h = cc
    only (suc n) b h = absurd (cc)

one_index : Fits One (Some one_block ∷ []) one_left
one_index = record { count = refl; each = at_each }
  where
    at_each : (i : ℕ) → i < 1 → FitsAt One one_left i (view_at (Some one_block ∷ []) i)
    at_each zero h = record {
      view = one_fits;
      index = record {
        stable = one_stable;
        minimal = one_minimal;
        whole = λ acyclic. acyclic_full (shape_of one_left) one_block.block_of left_shape acyclic one_stable one_minimal;
      };
    }
    at_each (suc i) h = absurd (omega (arith, h))

-- a block without a member, a node that is gone in a block, and support without an edge are refused

no_member : ViewFits one_left (record one_block { labels = Some 0 ∷ Some 0 ∷ [] }) → ⊥
no_member h = let m = h.inhabited 1 refl in none m.0 m.1
  where
    none : (n : ℕ) → at one_block.block_of n ≡ Some 1 → ⊥
    none zero e = absurd (cc)
    none (suc n) e = absurd (cc)

gone_member : ViewFits one_left (record one_block { block_of = Some 0 ∷ Some 0 ∷ [] }) → ⊥
gone_member h = let l = h.labelled 1 0 refl in let e = l.4 in absurd (cc)

support_alone : ViewFits one_left (record one_block { supports = table.insert table.empty (0, 0) 1 }) → ⊥
support_alone h =
    let claimed : support_at (table.insert table.empty (0, 0) 1) 0 0 ≡ 1 = ap (λ o. unwrap_or o 0) (table.get-insert edge_cmp_total table.empty (0, 0) 1 (0, 0)) in
    let none = sym (one_counts 0 0) ∙ ap (λ o. unwrap_or o 0) (table.get-empty edge_cmp (0, 0)) in
    let same = h.supports 0 0 in
    omega (arith, claimed, none, same)

-- a live node without a block is refused
without_block : Fits A (Some (record one_block { block_of = [] }) ∷ []) one_left → ⊥
without_block h = let p = (h.each 0 (omega arith)).agrees.partition.live 0 refl in true≢false (sym p)

-- two a, and a b to which an edge leads from each

abbrev pair_labels : List (List ℕ)
pair_labels = codes "a" ∷ codes "a" ∷ codes "b" ∷ []

abbrev two_edges : List (ℕ × ℕ)
two_edges = (1, 2) ∷ (0, 2) ∷ []

abbrev pair : Graph
pair = graph_from (codes "a" ∷ codes "b" ∷ []) pair_labels two_edges

pair_shape : IsShape (shape_of_list pair_labels two_edges)
pair_shape = shape_from pair_labels two_edges refl

abbrev apart : List (Option ℕ)
apart = Some 0 ∷ Some 2 ∷ Some 1 ∷ []

-- a -> b, and a b by itself: level 1 tells the two b apart, and the levels can't change places

abbrev lone_labels : List (List ℕ)
lone_labels = codes "a" ∷ codes "b" ∷ codes "b" ∷ []

abbrev lone : Graph
lone = graph_from (codes "a" ∷ codes "b" ∷ []) lone_labels ((0, 1) ∷ [])

abbrev lone_from_list : Shape
lone_from_list = shape_of_list lone_labels ((0, 1) ∷ [])

lone_shape : IsShape lone_from_list
lone_shape = shape_from lone_labels ((0, 1) ∷ []) refl

abbrev all_alone : List (Option ℕ)
all_alone = Some 0 ∷ Some 1 ∷ Some 2 ∷ []

abbrev two_blocks : List (Option ℕ)
two_blocks = Some 0 ∷ Some 1 ∷ Some 1 ∷ []

lone_first : Agrees lone_from_list all_alone (Bis lone_from_list 1)
lone_first = (level_decides lone_from_list lone_shape all_alone 1).0 refl

levels_swapped : (v w : View) → v.block_of ≡ all_alone → w.block_of ≡ two_blocks → Fits A (Some v ∷ Some w ∷ []) lone → ⊥
levels_swapped v w e f h =
    let same = shape_from_list (codes "a" ∷ codes "b" ∷ []) lone_labels ((0, 1) ∷ []) in
    let a = subst (λ s. Agrees s v.block_of (Bis s 0)) same (h.each 0 (omega arith)).agrees in
    refuted (level_decides lone_from_list lone_shape all_alone 0) refl (subst (λ p. Agrees lone_from_list p (Bis lone_from_list 0)) e a)

-- Blocks that are too coarse, and too fine, for the 1-index and for the forward and backward index: the second b has no
-- parent, and the two a with one child are alike.

one_too_coarse : (v : View) → v.block_of ≡ two_blocks → Fits One (Some v ∷ []) lone → ⊥
one_too_coarse v e h =
    let same = shape_from_list (codes "a" ∷ codes "b" ∷ []) lone_labels ((0, 1) ∷ []) in
    let s = subst (λ s. Stable s v.block_of) same (h.each 0 (omega arith)).index.stable in
    refuted (stable_decides lone_from_list lone_shape two_blocks) refl (subst (Stable lone_from_list) e s)

one_too_fine : (v : View) → v.block_of ≡ apart → Fits One (Some v ∷ []) pair → ⊥
one_too_fine v e h =
    let same = shape_from_list (codes "a" ∷ codes "b" ∷ []) pair_labels two_edges in
    let s = subst (λ s. Stable s v.block_of) same (h.each 0 (omega arith)).index.stable in
    let m = subst (λ s. Minimal s v.block_of) same (h.each 0 (omega arith)).index.minimal in
    refuted (minimal_decides (shape_of_list pair_labels two_edges) pair_shape apart (subst (Stable (shape_of_list pair_labels two_edges)) e s).partition) refl
    (subst (Minimal (shape_of_list pair_labels two_edges)) e m)

fb_too_coarse : (v : View) → v.block_of ≡ two_blocks → Fits Fb (Some v ∷ []) lone → ⊥
fb_too_coarse v e h =
    let same = shape_from_list (codes "a" ∷ codes "b" ∷ []) lone_labels ((0, 1) ∷ []) in
    let a = subst (λ s. Agrees s v.block_of (FB s)) same (h.each 0 (omega arith)).agrees in
    refuted (fb_full_decides lone_from_list lone_shape two_blocks) refl (subst (λ p. Agrees lone_from_list p (FB lone_from_list)) e a)

fb_too_fine : (v : View) → v.block_of ≡ apart → Fits Fb (Some v ∷ []) pair → ⊥
fb_too_fine v e h =
    let same = shape_from_list (codes "a" ∷ codes "b" ∷ []) pair_labels two_edges in
    let a = subst (λ s. Agrees s v.block_of (FB s)) same (h.each 0 (omega arith)).agrees in
    refuted (fb_full_decides (shape_of_list pair_labels two_edges) pair_shape apart) refl (subst (λ p. Agrees (shape_of_list pair_labels two_edges) p (FB (shape_of_list pair_labels two_edges))) e a)
