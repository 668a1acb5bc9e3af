-- A change, then splits, then merges, in a draft; and what they cost.
use Rattle.std.proofs.Common.{◌≡◌, ℕ, ◌+◌, ◌*◌, ◌≤◌, ◌^◌, List, [], length, Option, IsTrue, IsFalse, refl, sym, ◌∙◌, arith, Bool, nat_lt}
use Rattle.std.specs.Prelude.{not}
use Rattle.std.specs.FinSet as set
use Rattle.std.proofs.lemmas.Bool.{and_parts, and_from, not-true, not_from_false}
use Rattle.label_graph.specs.GraphViews.{label_number}
use Rattle.graph_spec.specs.Graphs.{Graph, IsGraph, is_live}
use Rattle.change_spec.specs.Steps.{Step, after}
use Rattle.graph_spec.specs.Members.{has, at}
use Rattle.graph_spec.specs.Shapes.{Shape, IsNode, IsShape, shape_of}
use Rattle.graph_spec.proofs.GraphLaws.{is_shape}
use Rattle.bisim_spec.specs.Partitions.{Together, IsPartition}
use Rattle.bisim_spec.specs.Stability.{StableBut, Stable, Minimal}
use Rattle.bisim_spec.specs.KeptBlocks.{KeepsBlocks}
use Rattle.bisim_spec.specs.Weights.{parent_count, weight_at, weight, size_of}
use Rattle.bisim_spec.specs.Reach.{reach}
use Rattle.change_spec.specs.Altered.{altered, targets}
use Rattle.change_spec.specs.Costs.{cost, is_gone}
use Rattle.change_spec.specs.Lost.{lost_onto}
use Rattle.change_spec.specs.NextOne.{KeepsParents, OneStep}
use Rattle.change_spec.proofs.Accepted.{applied_can, accepted_all}
use Rattle.change_spec.proofs.LostEdges.{lost_onto_few}
use Rattle.change_spec.proofs.StepDiffers.{differs_after}
use Rattle.graph_effects.proofs.Relabelled.{not_relabelled}
use Rattle.bisim_spec.specs.Fits.{FitsOne}
use Rattle.bisim_spec.proofs.Changed.{stable_but_changed}
use Rattle.bisim_spec.proofs.Bisimilar.{is_some_at, some_of}
use Rattle.bisim_spec.proofs.Outside.{DiffersAt, IsOut, outside_reach}
use Rattle.bisim_spec.proofs.Ranks.{acyclic_full}
use Rattle.bisim_spec.proofs.Reached.{reach_start}
use Rattle.graph_steps.specs.NewChanges.{IsNew}
use Rattle.quotient.specs.Quotients.{Quotient, view_of}
use Rattle.quotient_draft.specs.Drafts.{Drafted, shown_blocks, shown_labels, shown_support}
use Rattle.one_merge.specs.Merged.{HasGraph}
use Rattle.one_spec.specs.Merges.{AreMergeCandidates}
use Rattle.one_spec.specs.BlockLabels.{BlocksHaveLabels, BlocksHaveLabelsBut}
use Rattle.one_spec.specs.Splits.{IsClosed, IsSplitInside}
use Rattle.one_spec.specs.EdgeCounts.{AreEdgeCounts}
use Rattle.one_spec.specs.FirstCandidates.{AreFirstCandidates}
use Rattle.one_spec.specs.Viewed.{IsViewed, IsMergedToEnd}
use Rattle.one_spec.proofs.SplitThenMerge.{viewed_supports, first_candidates}
use Rattle.one_spec.proofs.MergedPairs.{merges_stable, outside_merges}
use Rattle.one_spec.proofs.LabelledBlocks.{labelled_by_numbers}
use Rattle.one_spec.proofs.Sums.{sum_without}
use Rattle.one_spec.proofs.OneSteps.{Stages, reach_closed, split_stable, split_outside, out_of_fewer}
use Rattle.one_update.specs.OneDrafts.{AreFoundTargets, AreTargets, ShowsChange, reached, rounds_cost}
use Rattle.one_update.specs.UnsteadyNodes.{AreUnsteady, is_unlisted}
use Rattle.one_update.proofs.SameParents.{part_changed, part_shape, part_stable, part_minimal, part_keeps, part_differs}

-- the graph before the change, in which the other nodes have the parents that they have after it
pub steady_part : Graph → List Step → List ℕ → Shape
steady_part g c found = part_changed g (after c g) (is_unlisted (after c g) found)

steady_shape : (g : Graph) (c : List Step) (found : List ℕ) (q : Quotient) → IsGraph g → FitsOne g (view_of q) → AreUnsteady g c q.blocks.block_of found → IsShape (steady_part g c found)
unfolding steady_part
steady_shape g c found q graph fits are = part_shape g (after c g) q.blocks.block_of (is_unlisted (after c g) found) graph fits.index.stable are.parents

steady_stable : (g : Graph) (c : List Step) (found : List ℕ) (q : Quotient) → IsGraph g → FitsOne g (view_of q) → AreUnsteady g c q.blocks.block_of found
    → Stable (steady_part g c found) q.blocks.block_of
unfolding steady_part
steady_stable g c found q graph fits are = part_stable g (after c g) q.blocks.block_of (is_unlisted (after c g) found) graph fits.index.stable are.parents

steady_minimal : (g : Graph) (c : List Step) (found : List ℕ) (q : Quotient) → IsGraph g → FitsOne g (view_of q) → AreUnsteady g c q.blocks.block_of found
    → Minimal (steady_part g c found) q.blocks.block_of
unfolding steady_part
steady_minimal g c found q graph fits are = part_minimal g (after c g) q.blocks.block_of (is_unlisted (after c g) found) graph fits.index.stable are.parents fits.index.minimal

steady_keeps : (g : Graph) (c : List Step) (found : List ℕ) (p p2 : List (Option ℕ)) → KeepsBlocks (shape_of g) (shape_of (after c g)) p p2 → KeepsBlocks (steady_part g c found) (shape_of (after c g)) p p2
unfolding steady_part
steady_keeps g c found p p2 h = part_keeps g (after c g) p p2 (is_unlisted (after c g) found) h

-- what isn't listed and is a node passes
unlisted_from : (g2 : Graph) (found : List ℕ) (n : ℕ) → IsTrue (is_live g2 n) → IsFalse (has found n) → IsTrue (is_unlisted g2 found n)
unlisted_from g2 found n live off = and_from (is_live g2 n) (not (has found n)) live (not_from_false (has found n) off)

-- the graph after the change differs from it at the listed nodes alone
steady_differs : (g : Graph) (c : List Step) (found : List ℕ) (p : List (Option ℕ)) → AreUnsteady g c p found → DiffersAt (has found) (steady_part g c found) (shape_of (after c g))
unfolding steady_part
steady_differs g c found p are =
    part_differs g (after c g) (has found) (is_unlisted (after c g) found) (λ n live off.
    let on = unlisted_from (after c g) found n live off in
    (are.labels n on, on))

pub stable_there : (g : Graph) (c : List Step) (found : List ℕ) (q : Quotient) (d : Drafted) → IsGraph g → IsGraph (after c g) → FitsOne g (view_of q)
    → AreUnsteady g c q.blocks.block_of found → ShowsChange g c q d → StableBut (shape_of (after c g)) (shown_blocks q d) (has found)
stable_there g c found q d graph graph2 fits are changed =
    stable_but_changed (has found) (steady_part g c found) (shape_of (after c g)) q.blocks.block_of (shown_blocks q d) (steady_shape g c found q graph fits are) (is_shape (after c g) graph2)
    (steady_differs g c found q.blocks.block_of are) (steady_keeps g c found q.blocks.block_of (shown_blocks q d) changed.keeps) (steady_stable g c found q graph fits are) changed.partition

-- blocks have the labels of their members except at the listed nodes, which all nodes are that get another label
pub labels_but_found : (g : Graph) (c : List Step) (found : List ℕ) (q : Quotient) (d : Drafted) → AreUnsteady g c q.blocks.block_of found → ShowsChange g c q d
    → BlocksHaveLabelsBut (has found) (shown_blocks q d) (at (shown_labels q d)) (label_number (after c g))
labels_but_found g c found q d are changed = record {
  is = λ n b off here.
      let node = changed.partition.only n (is_some_at (at (shown_blocks q d) n) b here) in
      changed.block_labels.is n b (not_relabelled g (after c g) n (are.labels n (unlisted_from (after c g) found n node off))) here;
}

-- where all targets are listed, the graphs differ at these alone
pub all_found : (g : Graph) (c : List Step) (list : List ℕ) → AreTargets g c list → AreFoundTargets g c list
all_found g c list are = record {
  once = are.once;
  among = λ n h. sym (are.members n) ∙ h;
  differs = record {
    label = λ n live off. (differs_after c g).label n live (sym (are.members n) ∙ off);
    edge = λ p n live off. (differs_after c g).edge p n live (sym (are.members n) ∙ off);
  };
}

-- where the graphs differ at the listed nodes alone, the others keep their labels and parents
pub found_unsteady : (g : Graph) (c : List Step) (p : List (Option ℕ)) (found : List ℕ) → IsGraph g → IsPartition (shape_of g) p → AreFoundTargets g c found → AreUnsteady g c p found
found_unsteady g c p found graph partition are = record {
  once = are.once;
  among = are.among;
  labels = λ n h. (let k = parts n h in are.differs.label n k.0 k.1);
  parents = record {
    into = λ x y h e. (let k = parts y h in (x, sym (are.differs.edge x y k.0 k.1) ∙ e, self x ((is_shape g graph).from x y e)));
    back = λ x y h e. (
        let k = parts y h in
        let was = are.differs.edge x y k.0 k.1 ∙ e in
        (x, was, self x ((is_shape g graph).from x y was)));
  };
}
  where
    parts : (n : ℕ) → IsTrue (is_unlisted (after c g) found n) → IsTrue (is_live (after c g) n) × IsFalse (has found n)
    parts n h = let both = and_parts (is_live (after c g) n) (not (has found n)) h in (both.0, not-true (has found n) both.1)

    self : (n : ℕ) → IsNode (shape_of g) n → Together p n n
    self n k = let b = some_of (at p n) (partition.live n k) in (b.0, b.1, b.1)

-- the targets are reached
pub targets_reached : (g : Graph) (c : List Step) (found : List ℕ) → ((n : ℕ) → IsTrue (has found n) → IsTrue (targets c g n)) → (n : ℕ) → IsTrue (has found n) → IsTrue (reached g c n)
targets_reached g c found among n h = reach_start (shape_of (after c g)) (targets c g) n (among n h)

-- the split clause of this change
pub record HasSplit (g : Graph) (c : List Step) (found : List ℕ) (p1 p2 : List (Option ℕ)) (new_blocks : List ℕ) : Type 0 where
  pub split : (inside : ℕ → Bool) → IsClosed (shape_of (after c g)) inside → ((n : ℕ) → IsTrue (has found n) → IsTrue (inside n))
      → IsSplitInside (shape_of (after c g)) inside p1 p2 [] new_blocks

stages : (g : Graph) (c : List Step) (found : List ℕ) (q : Quotient) (d : Drafted) (p2 : List (Option ℕ)) (new_blocks : List ℕ) → IsGraph g → IsGraph (after c g) → FitsOne g (view_of q)
    → AreUnsteady g c q.blocks.block_of found → ShowsChange g c q d → HasSplit g c found (shown_blocks q d) p2 new_blocks
    → Stages (has found) (steady_part g c found) (shape_of (after c g)) q.blocks.block_of (shown_blocks q d) p2 new_blocks
stages g c found q d p2 new_blocks graph graph2 fits are changed split =
    let s2 = shape_of (after c g) in
    record {
      shape = steady_shape g c found q graph fits are;
      shape2 = is_shape (after c g) graph2;
      differs = steady_differs g c found q.blocks.block_of are;
      stable = steady_stable g c found q graph fits are;
      minimal = steady_minimal g c found q graph fits are;
      partition = changed.partition;
      keeps = steady_keeps g c found q.blocks.block_of (shown_blocks q d) changed.keeps;
      split = split.split (reach s2 (has found)) (reach_closed s2 (has found) (is_shape (after c g) graph2)) (λ n h. reach_start s2 (has found) n h);
    }

-- the merge clause
pub record HasMerge (p2 p3 : List (Option ℕ)) (labels : ℕ → Option ℕ) (support : ℕ → ℕ → ℕ) (merge_candidates : List ℕ) : Type 0 where
  pub merged : (s : Shape) → IsViewed s p2 labels (λ x y. nat_lt 0 (support x y)) → AreMergeCandidates s p2 (λ b. IsTrue (has merge_candidates b)) → IsMergedToEnd s p2 p3

pub stepped : (g : Graph) (c : List Step) (found : List ℕ) (q : Quotient) (d d2 : Drafted) (p3 : List (Option ℕ)) (new_blocks merge_candidates : List ℕ) → IsGraph g → IsGraph (after c g)
    → FitsOne g (view_of q) → AreUnsteady g c q.blocks.block_of found → ShowsChange g c q d → HasSplit g c found (shown_blocks q d) (shown_blocks q d2) new_blocks
    → BlocksHaveLabels (shown_blocks q d2) (at (shown_labels q d2)) (label_number (after c g)) → AreEdgeCounts (after c g) (shown_blocks q d2) (shown_support q d2)
    → AreFirstCandidates (has found) (shown_blocks q d2) new_blocks merge_candidates → HasMerge (shown_blocks q d2) p3 (at (shown_labels q d2)) (shown_support q d2) merge_candidates
    → (KeepsParents c (after c g) q.blocks.block_of → ⊥) → OneStep g q.blocks.block_of c (after c g) p3
stepped g c found q d d2 p3 new_blocks merge_candidates graph graph2 fits are changed split block_labels supports added merge moves =
    let s = steady_part g c found in
    let s2 = shape_of (after c g) in
    let p = q.blocks.block_of in
    let p1 = shown_blocks q d in
    let p2 = shown_blocks q d2 in
    let ready = stages g c found q d p2 new_blocks graph graph2 fits are changed split in
    let split_is = split_stable (has found) s s2 p p1 p2 new_blocks ready in
    let labelled = labelled_by_numbers (after c g) p2 (at (shown_labels q d2)) block_labels in
    let viewed = viewed_supports (after c g) p2 (at (shown_labels q d2)) (shown_support q d2) (λ x y. nat_lt 0 (shown_support q d2 x y)) ready.shape2 split_is labelled supports (λ x y. refl) in
    let done = merge.merged s2 viewed (first_candidates (has found) s s2 p p1 p2 new_blocks merge_candidates ready added) in
    let stable = merges_stable s2 p2 p3 done.merges split_is in
    let outside = outside_merges s s2 (IsOut s2 (has found)) p p2 p3 (outside_reach (has found) s s2 ready.shape2 ready.differs) (split_outside (has found) s s2 p p1 p2 new_blocks ready)
    ready.stable ready.minimal done.merges in
    record {
      made = refl;
      index = record { stable = stable; minimal = done.minimal; whole = λ acyclic. acyclic_full s2 p3 ready.shape2 acyclic stable done.minimal };
      outside = λ u v nu nv mu mv ou ov. (
          let a = out_of_fewer s2 (has found) (targets c g) u ready.shape2 are.among ou in
          let b = out_of_fewer s2 (has found) (targets c g) v ready.shape2 are.among ov in
          (outside.back u v (mu, a) (mv, b), outside.into u v (mu, a) (mv, b)));
      still = λ keeps. absurd (moves keeps);
    }

-- the supports are those of a graph with few edges, and blocks with members have labels
pub has_graph : (g : Graph) (p : List (Option ℕ)) (labels : ℕ → Option ℕ) (support : ℕ → ℕ → ℕ) → AreEdgeCounts g p support → set.len g.edges ≤ 2 ^ 30
    → BlocksHaveLabels p labels (label_number g) → HasGraph p labels support
has_graph g p labels support supports few block_labels = record {
  graph = g;
  supports = supports;
  few = few;
  live = λ n b e. let r = block_labels.is n b e in is_some_at (labels b) r.0 r.1;
}

-- what a split costs, where it is bounded by each closed set with the targets
pub reach_cost : (g : Graph) (c : List Step) (found : List ℕ) (old new : ℕ) → IsGraph (after c g) → ((n : ℕ) → IsTrue (has found n) → IsTrue (targets c g n))
    → ((inside : ℕ → Bool) → IsClosed (shape_of (after c g)) inside → ((n : ℕ) → IsTrue (has found n) → IsTrue (inside n))
    → new ≤ old + 4 * ((size_of (shape_of (after c g)) inside + 1) * cost c g inside))
    → new ≤ old + 4 * rounds_cost g c
reach_cost g c found old new graph2 among most =
    most (reached g c) (reach_closed (shape_of (after c g)) (targets c g) (is_shape (after c g) graph2)) (targets_reached g c found among)

pub more_times : (r w : ℕ) → w ≤ (r + 1) * w
more_times r w = (let e : (r + 1) * w ≡ r * w + w = omega arith in omega (arith, e))

-- what the change costs once is within what rounds may cost
pub once_within : (g : Graph) (c : List Step) → cost c g (reached g c) ≤ rounds_cost g c
once_within g c = more_times (size_of (shape_of (after c g)) (reached g c)) (cost c g (reached g c))

-- finding the effects costs no more than rounds may twice
pub effects_light : (g : Graph) (c : List Step) → length c + 2 * weight (shape_of g) (is_gone g (after c g)) ≤ 2 * rounds_cost g c
effects_light g c = (let most = once_within g c in omega (arith, most))

-- Reading the parents of a target once costs no more than rounds may.
pub read_light : (g : Graph) (c : List Step) (found : List ℕ) (t : ℕ) → IsGraph g → IsGraph (after c g) → IsNew c g → AreFoundTargets g c found → IsTrue (has found t) → IsTrue (is_live g t)
    → 1 + parent_count (shape_of (after c g)) t + lost_onto g (after c g) t ≤ rounds_cost g c
read_light g c found t graph graph2 new are there was =
    let s = shape_of g in
    let s2 = shape_of (after c g) in
    let live = (and_parts (is_live (after c g) t) (altered c g t) (are.among t there)).0 in
    let own = sum_without s2.size (reached g c) (weight_at s2) t ((is_shape (after c g) graph2).below t live) (targets_reached g c found are.among t there) in
    let lost = sum_without s.size (is_live (after c g)) (lost_onto g (after c g)) t ((is_shape g graph).below t was) live in
    let few = lost_onto_few c g graph (applied_can c g (after c g) new.limits (accepted_all c g (after c g) new.limits new.accepted).1) in
    let most = once_within g c in
    omega (arith, own, lost, few, most)
