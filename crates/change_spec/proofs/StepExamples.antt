-- How the 1-index moves with a change, at small graphs and near misses.
use Rattle.std.proofs.Common.{◌≡◌, ℕ, false, List, [], ◌∷◌, length, Option, Some, refl, sym, ◌∙◌, ap, subst, arith, inl, inr, true≢false}
use Rattle.std.specs.Prelude.{IsFalse, ◌||◌, codes, nat_eq}
use Rattle.std.proofs.lemmas.Bool.{and_parts, or_cases}
use Rattle.std.proofs.lemmas.Bool.Decides.{Decides-eqb}
use Rattle.graph_spec.specs.Graphs.{Graph}
use Rattle.graph_spec.specs.Shapes.{IsShape, shape_of}
use Rattle.bisim_spec.specs.Bisimilarity.{Bisim}
use Rattle.bisim_spec.specs.Partitions.{Together, Agrees}
use Rattle.bisim_spec.specs.Stability.{Stable, Minimal}
use Rattle.bisim_spec.specs.Reach.{reach}
use Rattle.bisim_spec.specs.KeptBlocks.{HasOther}
use Rattle.bisim_spec.proofs.StabilityTests.{stable_decides, minimal_decides}
use Rattle.bisim_spec.proofs.WrittenShapes.{shape_of_list, shape_from, is_edge}
use Rattle.bisim_spec.proofs.WrittenGraphs.{graph_from, shape_from_list}
use Rattle.bisim_spec.proofs.Examples.{full_decides}
use Rattle.change_spec.specs.Steps.{node, link, unlink, relabel, after}
use Rattle.change_spec.specs.Altered.{targets}
use Rattle.change_spec.specs.NextOne.{KeepsParents, OneStep}

-- two a, and a b to which an edge leads from the first of them, and then from the second too

abbrev pair_labels : List (List ℕ)
pair_labels = codes "a" ∷ codes "a" ∷ codes "b" ∷ []

abbrev pair : List (ℕ × ℕ) → Graph
pair edges = graph_from (codes "a" ∷ codes "b" ∷ []) pair_labels edges

abbrev one_edge : List (ℕ × ℕ)
one_edge = (0, 2) ∷ []

abbrev two_edges : List (ℕ × ℕ)
two_edges = (1, 2) ∷ (0, 2) ∷ []

pair_shape : IsShape (shape_of_list pair_labels two_edges)
pair_shape = shape_from pair_labels two_edges refl

abbrev by_label : List (Option ℕ)
by_label = Some 0 ∷ Some 0 ∷ Some 1 ∷ []

-- the b has a parent in the block of the two a already, so one more gives it no parent block
keeps_link : KeepsParents (link 1 2 ∷ []) (pair two_edges) by_label
keeps_link = record {
  parent = 0;
  other = λ e. absurd (omega (arith, e));
  is_parent = ap (λ s. s.edge 0 2) (shape_from_list (codes "a" ∷ codes "b" ∷ []) pair_labels two_edges);
  together = (0, refl, refl);
}

-- the first edge does give it one: no other parent is there
first_adds : KeepsParents (link 0 2 ∷ []) (pair one_edge) by_label → ⊥
first_adds h =
    let e = sym (ap (λ s. s.edge h.parent 2) (shape_from_list (codes "a" ∷ codes "b" ∷ []) pair_labels one_edge)) ∙ h.is_parent in
    elim (or_cases (is_edge h.parent 2 (0, 2)) false e) [
      | inl same ↦ h.other ((Decides-eqb h.parent 0).0 (and_parts (nat_eq h.parent 0) (nat_eq 2 2) same).0)
      | inr none ↦ true≢false (sym none)
    ]

-- nor does a second edge where the two a are apart
abbrev apart : List (Option ℕ)
apart = Some 0 ∷ Some 2 ∷ Some 1 ∷ []

apart_adds : KeepsParents (link 1 2 ∷ []) (pair two_edges) apart → ⊥
apart_adds h =
    let e = sym (ap (λ s. s.edge h.parent 2) (shape_from_list (codes "a" ∷ codes "b" ∷ []) pair_labels two_edges)) ∙ h.is_parent in
    elim (or_cases (is_edge h.parent 2 (1, 2)) (is_edge h.parent 2 (0, 2) || false) e) [
      | inl same ↦ h.other ((Decides-eqb h.parent 1).0 (and_parts (nat_eq h.parent 1) (nat_eq 2 2) same).0)
      | inr rest ↦ elim (or_cases (is_edge h.parent 2 (0, 2)) false rest) [
        | inl same ↦ first_alone (subst (λ n. Together apart n 1) ((Decides-eqb h.parent 0).0 (and_parts (nat_eq h.parent 0) (nat_eq 2 2) same).0) h.together)
        | inr none ↦ true≢false (sym none)
      ]
    ]
  where
    first_alone : Together apart 0 1 → ⊥
    first_alone (b, x, y) = absurd (cc)

-- one of the two edges goes, and the b still has a parent in the block of the two a
keeps_unlink : KeepsParents (unlink 1 2 ∷ []) (pair one_edge) by_label
keeps_unlink = record {
  parent = 0;
  other = λ e. absurd (omega (arith, e));
  is_parent = ap (λ s. s.edge 0 2) (shape_from_list (codes "a" ∷ codes "b" ∷ []) pair_labels one_edge);
  together = (0, refl, refl);
}

-- the last edge takes it
last_takes : KeepsParents (unlink 0 2 ∷ []) (pair []) by_label → ⊥
last_takes h = true≢false (sym (sym (ap (λ s. s.edge h.parent 2) (shape_from_list (codes "a" ∷ codes "b" ∷ []) pair_labels [])) ∙ h.is_parent))

linked : OneStep (pair one_edge) by_label (link 1 2 ∷ []) (pair two_edges) by_label
linked =
    let same = sym (shape_from_list (codes "a" ∷ codes "b" ∷ []) pair_labels two_edges) in
    let stable = (stable_decides (shape_of_list pair_labels two_edges) pair_shape by_label).0 refl in
    record {
      made = refl;
      index = record {
        stable = subst (λ s. Stable s by_label) same stable;
        minimal = subst (λ s. Minimal s by_label) same ((minimal_decides (shape_of_list pair_labels two_edges) pair_shape by_label stable.partition).0 refl);
        whole = λ acyclic. subst (λ s. Agrees s by_label (Bisim s)) same ((full_decides (shape_of_list pair_labels two_edges) pair_shape by_label).0 refl);
      };
      outside = λ u v gu gv hu hv ru rv. (λ t. t, λ t. t);
      still = λ keeps u v hu hv. (λ t. t, λ t. t);
    }

-- the change has to be made
not_made : OneStep (pair one_edge) by_label (node (codes "a") ∷ []) (pair one_edge) by_label → ⊥
not_made h = let e = ap (λ g. length g.allocated) h.made in omega (arith, e)

-- Two rings of an a and a b, in two blocks. With rings a partition of four blocks is stable and unmergeable too, but a
-- change may lead to it only where it reaches what is parted, and where it doesn't keep the parent blocks of its
-- target.

abbrev ring_labels : List (List ℕ)
ring_labels = codes "a" ∷ codes "b" ∷ codes "a" ∷ codes "b" ∷ []

abbrev ring_edges : List (ℕ × ℕ)
ring_edges = (0, 1) ∷ (1, 0) ∷ (2, 3) ∷ (3, 2) ∷ []

abbrev rings : Graph
rings = graph_from (codes "a" ∷ codes "b" ∷ []) ring_labels ring_edges

abbrev in_two : List (Option ℕ)
in_two = Some 0 ∷ Some 1 ∷ Some 0 ∷ Some 1 ∷ []

-- an edge from one ring to the other, whose end has a parent in that block already

abbrev joined_edges : List (ℕ × ℕ)
joined_edges = (2, 1) ∷ ring_edges

abbrev in_four : List (Option ℕ)
in_four = Some 0 ∷ Some 1 ∷ Some 2 ∷ Some 3 ∷ []

joined_shape : IsShape (shape_of_list ring_labels joined_edges)
joined_shape = shape_from ring_labels joined_edges refl

in_four_stable : Stable (shape_of_list ring_labels joined_edges) in_four
in_four_stable = (stable_decides (shape_of_list ring_labels joined_edges) joined_shape in_four).0 refl

in_four_minimal : Minimal (shape_of_list ring_labels joined_edges) in_four
in_four_minimal = (minimal_decides (shape_of_list ring_labels joined_edges) joined_shape in_four in_four_stable.partition).0 refl

parted_by_link : OneStep rings in_two (link 2 1 ∷ []) (after (link 2 1 ∷ []) rings) in_four → ⊥
parted_by_link h =
    let same = shape_from_list (codes "a" ∷ codes "b" ∷ []) ring_labels joined_edges in
    let other : HasOther (shape_of (after (link 2 1 ∷ []) rings)) in_two 2 1 = record {
      parent = 0;
      other = λ e. absurd (omega (arith, e));
      is_parent = ap (λ s. s.edge 0 1) same;
      together = (0, refl, refl);
    } in
    let t = (h.still other 0 2 refl refl).1 (0, refl, refl) in
    let x = t.1 in
    let y = t.2 in
    absurd (cc)

-- a node by itself reaches neither ring

abbrev more_labels : List (List ℕ)
more_labels = codes "a" ∷ codes "b" ∷ codes "a" ∷ codes "b" ∷ codes "x" ∷ []

parted_by_node : OneStep rings in_two (node (codes "x") ∷ []) (after (node (codes "x") ∷ []) rings) (Some 0 ∷ Some 1 ∷ Some 2 ∷ Some 3 ∷ Some 4 ∷ []) → ⊥
parted_by_node h =
    let same = shape_from_list (codes "a" ∷ codes "b" ∷ codes "x" ∷ []) more_labels ring_edges in
    let off : (n : ℕ) → reach (shape_of_list more_labels ring_edges) (targets (node (codes "x") ∷ []) rings) n ≡ false
    → IsFalse (reach (shape_of (after (node (codes "x") ∷ []) rings)) (targets (node (codes "x") ∷ []) rings) n) =
    λ n e. ap (λ s. reach s (targets (node (codes "x") ∷ []) rings) n) same ∙ e in
    let t = (h.outside 0 2 refl refl refl refl (off 0 refl) (off 2 refl)).1 (0, refl, refl) in
    let x = t.1 in
    let y = t.2 in
    absurd (cc)

-- two steps, or a drop, or another label, keep no parent blocks in this sense
two_keep_nothing : (g : Graph) (block : List (Option ℕ)) → KeepsParents (link 1 2 ∷ link 0 2 ∷ []) g block → ⊥
two_keep_nothing g block h = h

none_keep_nothing : (g : Graph) (block : List (Option ℕ)) → KeepsParents [] g block → ⊥
none_keep_nothing g block h = h

label_keeps_nothing : (g : Graph) (block : List (Option ℕ)) → KeepsParents (relabel 0 (codes "b") ∷ []) g block → ⊥
label_keeps_nothing g block h = h
