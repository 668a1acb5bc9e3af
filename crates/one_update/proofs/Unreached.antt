-- A split and the merges after it, each by itself: what the change doesn't reach stays together.
use Rattle.std.proofs.Common.{◌≡◌, ℕ, ◌+◌, ◌*◌, ◌≤◌, List, [], Option, Some, IsTrue, refl, sym, ◌∙◌, subst, arith, inl, inr, true, false, Bool, nat_lt}
use Rattle.std.specs.Prelude.{not}
use Rattle.std.proofs.lemmas.Bool.{cases_Bool, both_ways, not-true, not_from_false}
use Rattle.label_graph.specs.GraphViews.{label_number}
use Rattle.graph_spec.specs.Graphs.{Graph, IsGraph}
use Rattle.change_spec.specs.Steps.{Step, after}
use Rattle.graph_spec.specs.Members.{has, at, Lists}
use Rattle.graph_spec.specs.Shapes.{Shape, IsNode, shape_of}
use Rattle.graph_spec.proofs.GraphLaws.{is_shape}
use Rattle.bisim_spec.specs.Stability.{Stable, Minimal}
use Rattle.bisim_spec.specs.Reach.{reach}
use Rattle.bisim_spec.specs.KeptBlocks.{KeepsBlocks}
use Rattle.change_spec.specs.Altered.{targets}
use Rattle.change_spec.specs.Costs.{cost}
use Rattle.bisim_spec.proofs.Bisimilar.{is_some_at}
use Rattle.bisim_spec.proofs.Changed.{live_before}
use Rattle.change_spec.proofs.StepDiffers.{differs_after}
use Rattle.bisim_spec.proofs.Outside.{SameOutside, IsOut, off_target, outside_reach, none_outside}
use Rattle.bisim_spec.proofs.Together.{together_sym, together_some}
use Rattle.one_spec.specs.Merges.{AreMergeCandidates}
use Rattle.one_spec.specs.BlockLabels.{BlocksHaveLabels}
use Rattle.one_spec.specs.SplitRoundSteps.{SameBut}
use Rattle.one_spec.specs.Splits.{IsSplitInside}
use Rattle.one_spec.specs.EdgeCounts.{AreEdgeCounts}
use Rattle.one_spec.specs.Viewed.{IsMergedToEnd}
use Rattle.one_spec.proofs.SplitThenMerge.{viewed_supports}
use Rattle.one_spec.proofs.LabelledBlocks.{labelled_by_numbers}
use Rattle.one_spec.proofs.MergedPairs.{merges_stable, merges_keep, outside_merges}
use Rattle.one_spec.proofs.OneSteps.{reach_closed}
use Rattle.one_spec.proofs.MergeCandidates.{unmarked_candidates}
use Rattle.one_update.specs.OneDrafts.{AreTargets, KeepsUnreached, reached, rounds_cost}
use Rattle.one_update.proofs.PhaseLaws.{HasMerge, HasSplit, once_within, targets_reached}

-- what the split clause says of the nodes that are reached
pub split_reached : (g : Graph) (c : List Step) (list : List ℕ) (p p2 : List (Option ℕ)) (new_blocks : List ℕ) → IsGraph (after c g) → AreTargets g c list → HasSplit g c list p p2 new_blocks
    → IsSplitInside (shape_of (after c g)) (reached g c) p p2 [] new_blocks
split_reached g c list p p2 new_blocks graph2 are split =
    split.split (reached g c) (reach_closed (shape_of (after c g)) (targets c g) (is_shape (after c g) graph2)) (targets_reached g c list (λ n h. sym (are.members n) ∙ h))

-- nodes out of reach are together as in the base
unreached_same : (g : Graph) (c : List Step) (p p2 : List (Option ℕ)) → KeepsUnreached g c p p2 → SameOutside p p2 (IsOut (shape_of (after c g)) (targets c g))
unreached_same g c p p2 split = record {
  into = λ x y ox oy t. (split.outside x y (before x ox) (before y oy) ox.0 oy.0 ox.1 oy.1).1 t;
  back = λ x y ox oy t. (split.outside x y (before x ox) (before y oy) ox.0 oy.0 ox.1 oy.1).0 t;
}
  where
    before : (n : ℕ) → IsOut (shape_of (after c g)) (targets c g) n → IsNode (shape_of g) n
    before n o = live_before (targets c g) (shape_of g) (shape_of (after c g)) (differs_after c g) n (off_target (shape_of (after c g)) (targets c g) n o.1) o.0

-- the blocks of these nodes are listed
pub record HaveBlocks (nodes : List ℕ) (p : List (Option ℕ)) (blocks : List ℕ) : Type 0 where
  pub there : (n b : ℕ) → IsTrue (has nodes n) → at p n ≡ Some b → IsTrue (has blocks b)

-- of each two blocks that can be merged one has members that are all reached, so it is listed
reached_candidates : (g : Graph) (c : List Step) (p p2 : List (Option ℕ)) (nodes blocks : List ℕ) → IsGraph (after c g) → KeepsUnreached g c p p2
    → Stable (shape_of (after c g)) p2 → Lists (reached g c) nodes → HaveBlocks nodes p2 blocks → AreMergeCandidates (shape_of (after c g)) p2 (λ b. IsTrue (has blocks b))
reached_candidates g c p p2 nodes blocks graph2 split stable listed have = record {
  one = λ a b can. elim (unmarked.one a b can) [
    | inl h ↦ inl (there a can.first.0 can.first.1 (h can.first.0 can.first.1))
    | inr h ↦ inr (there b can.second.0 can.second.1 (h can.second.0 can.second.1))
  ];
}
  where
    out : (n b : ℕ) → not (reached g c n) ≡ true → at p2 n ≡ Some b → IsOut (shape_of (after c g)) (targets c g) n
    out n b m e = (stable.partition.only n (is_some_at (at p2 n) b e), not-true (reached g c n) m)

    unmarked : AreMergeCandidates (shape_of (after c g)) p2 (λ b. (n : ℕ) → at p2 n ≡ Some b → not (reached g c n) ≡ false)
    unmarked =
        unmarked_candidates (shape_of (after c g)) p2 (λ n. not (reached g c n)) (is_shape (after c g) graph2) stable.partition (λ x y a b mx my hx hy ne can.
        none_outside (shape_of g) (shape_of (after c g)) (IsOut (shape_of (after c g)) (targets c g)) p p2
        (outside_reach (targets c g) (shape_of g) (shape_of (after c g)) (is_shape (after c g) graph2) (differs_after c g)) (unreached_same g c p p2 split)
        split.stable split.minimal x y a b (out x a mx hx) (out y b my hy) hx hy ne can)

    there : (b n : ℕ) → at p2 n ≡ Some b → not (reached g c n) ≡ false → IsTrue (has blocks b)
    there b n e h = elim (cases_Bool (reached g c n)) [
      | inl on ↦ have.there n b (listed.members n ∙ on) e
      | inr off ↦ absurd (both_ways (not (reached g c n)) h (not_from_false (reached g c n) off))
    ]

-- a stable partition that was merged to the end
pub record IsMergedWhole (s : Shape) (inside : ℕ → Bool) (p p2 : List (Option ℕ)) : Type 0 where
  pub stable : Stable s p2
  pub minimal : Minimal s p2
  pub same : SameBut p p2 inside

pub merged_whole : (g : Graph) (c : List Step) (p p2 p3 : List (Option ℕ)) (labels : ℕ → Option ℕ) (support : ℕ → ℕ → ℕ) (nodes blocks : List ℕ) → IsGraph (after c g)
    → KeepsUnreached g c p p2 → Stable (shape_of (after c g)) p2 → BlocksHaveLabels p2 labels (label_number (after c g)) → AreEdgeCounts (after c g) p2 support
    → Lists (reached g c) nodes → HaveBlocks nodes p2 blocks → HasMerge p2 p3 labels support blocks → IsMergedWhole (shape_of (after c g)) (reached g c) p2 p3
merged_whole g c p p2 p3 labels support nodes blocks graph2 split stable block_labels supports listed have merge =
    let s2 = shape_of (after c g) in
    let shape2 = is_shape (after c g) graph2 in
    let viewed = viewed_supports (after c g) p2 labels support (λ x y. nat_lt 0 (support x y)) shape2 stable (labelled_by_numbers (after c g) p2 labels block_labels) supports (λ x y. refl) in
    let done : IsMergedToEnd s2 p2 p3 = merge.merged s2 viewed (reached_candidates g c p p2 nodes blocks graph2 split stable listed have) in
    let same = unreached_same g c p p2 split in
    let after_merges = outside_merges (shape_of g) s2 (IsOut s2 (targets c g)) p p2 p3 (outside_reach (targets c g) (shape_of g) s2 shape2 (differs_after c g)) same split.stable
    split.minimal done.merges in
    let stable3 = merges_stable s2 p2 p3 done.merges stable in
    record {
      stable = stable3;
      minimal = done.minimal;
      same = record {
        into = λ u v ou ov t. merges_keep s2 p2 p3 done.merges u v t;
        back = λ u v ou ov t.
            let nu = stable3.partition.only u (together_some p3 u v t) in
            let nv = stable3.partition.only v (together_some p3 v u (together_sym p3 u v t)) in
            same.into u v (nu, ou) (nv, ov) (after_merges.back u v (nu, ou) (nv, ov) t);
      };
    }

-- to be in the list is to be a target
same_test : (g : Graph) (c : List Step) (list : List ℕ) → AreTargets g c list → has list ≡ targets c g
same_test g c list are = λ j n. are.members n j

-- the list of what the targets reach
pub reached_listed : (g : Graph) (c : List Step) (list nodes : List ℕ) → AreTargets g c list → Lists (reach (shape_of (after c g)) (has list)) nodes → Lists (reached g c) nodes
reached_listed g c list nodes are listed = subst (λ from. Lists (reach (shape_of (after c g)) from) nodes) (same_test g c list are) listed

-- reading what is reached once costs no more than merges may
pub search_light : (g : Graph) (c : List Step) (list : List ℕ) (old new : ℕ) → AreTargets g c list
    → new ≤ old + cost c g (reach (shape_of (after c g)) (has list)) → new ≤ old + 3 * rounds_cost g c
search_light g c list old new are most =
    let most2 : new ≤ old + cost c g (reached g c) = subst (λ from. new ≤ old + cost c g (reach (shape_of (after c g)) from)) (same_test g c list are) most in
    let one = once_within g c in
    omega (arith, one, most2)

-- Where nodes kept the blocks that they had, what a split makes of the partition is what merging asks.
pub split_of : (g : Graph) (c : List Step) (p p1 p2 : List (Option ℕ)) → Stable (shape_of g) p → Minimal (shape_of g) p → KeepsBlocks (shape_of g) (shape_of (after c g)) p p1
    → SameBut p1 p2 (reached g c) → KeepsUnreached g c p p2
split_of g c p p1 p2 stable minimal keeps same = record {
  stable = stable;
  minimal = minimal;
  outside = λ u v nu nv mu mv ou ov. (
    λ t. let k = same.back u v ou ov t in (k.0, sym (keeps.kept u nu mu) ∙ k.1, sym (keeps.kept v nv mv) ∙ k.2),
    λ t. same.into u v ou ov (t.0, keeps.kept u nu mu ∙ t.1, keeps.kept v nv mv ∙ t.2),
  );
}
