-- An edge that comes, and an edge that goes, in a draft: supports, and where the partition stays.
use Rattle.std.proofs.Common.{◌≡◌, ◌≢◌, ℕ, ◌+◌, ◌<◌, List, [], ◌∷◌, Option, Some, IsTrue, refl, sym, ◌∙◌, ap, subst, arith, inl, inr, true, false, cond, true≢false}
use Rattle.std.specs.Prelude.{nat_eq, ◌&&◌, ◌||◌, not}
use Rattle.std.specs.FinSet as set
use Rattle.std.proofs.lemmas.Bool.Decides.{eqb_tells}
use Rattle.graph_spec.specs.Graphs.{Graph, IsGraph, has_edge}
use Rattle.graph_spec.specs.Changes.{with_edge, without_edge}
use Rattle.change_spec.specs.Steps.{link, unlink}
use Rattle.graph_spec.specs.Members.{at, is_this}
use Rattle.graph_spec.specs.Shapes.{shape_of}
use Rattle.graph_spec.proofs.GraphLaws.{is_shape, edge_with, edge_without}
use Rattle.label_graph.specs.GraphViews.{label_number}
use Rattle.bisim_spec.specs.Partitions.{IsPartition}
use Rattle.bisim_spec.specs.Supports.{edges_between}
use Rattle.bisim_spec.specs.KeptBlocks.{HasOther}
use Rattle.change_spec.specs.NextOne.{OneStep}
use Rattle.bisim_spec.specs.IndexGraphs.{support_at}
use Rattle.bisim_spec.specs.Fits.{FitsOne}
use Rattle.bisim_spec.proofs.Moves.{between_linked, between_unlinked}
use Rattle.bisim_spec.proofs.EdgeSupports.{support_adjacent, adjacent_support}
use Rattle.bisim_spec.proofs.Together.{together_at, together_sym}
use Rattle.quotient.specs.Quotients.{Quotient, view_of}
use Rattle.quotient.specs.QuotientNeighbours.{one_if}
use Rattle.quotient_draft.specs.Drafts.{Drafted, shown_blocks, shown_labels, shown_support, with_moves, with_added}
use Rattle.quotient_draft.specs.Basis.{IsOver}
use Rattle.one_spec.specs.BlockLabels.{BlocksHaveLabels}
use Rattle.one_spec.specs.EdgeCounts.{AreEdgeCounts}
use Rattle.one_spec.proofs.UnchangedPartition.{twin_link, twin_unlink, one_step_still, supported_other}
use Rattle.graph_effects.proofs.Relabelled.{not_relabelled}
use Rattle.one_update.specs.OneDrafts.{ShowsChange, IsDrafted, AreSupportsAlone}
use Rattle.one_update.proofs.Bases.{block_labels_texts, base_texts}

blocks_same : (q : Quotient) (d : Drafted) → AreSupportsAlone d → shown_blocks q d ≡ q.blocks.block_of
blocks_same q d alone = ap (with_moves q.blocks.block_of) alone.moves

labels_same : (q : Quotient) (d : Drafted) → AreSupportsAlone d → shown_labels q d ≡ q.blocks.labels
labels_same q d alone = ap (with_added q.blocks.labels) alone.added

-- what a drafted link makes of the supports
pub record IsRaised (q : Quotient) (d : Drafted) (a b : ℕ) : Type 0 where
  pub raised : (x y : ℕ) → shown_support q d x y ≡ support_at q.supports x y + one_if (nat_eq x a && nat_eq y b)

pub record IsLowered (q : Quotient) (d : Drafted) (a b : ℕ) : Type 0 where
  pub lowered : (x y : ℕ) → shown_support q d x y + one_if (nat_eq x a && nat_eq y b) ≡ support_at q.supports x y

-- the two nodes have these blocks
pub record AreAt (p : List (Option ℕ)) (u v a b : ℕ) : Type 0 where
  pub from : at p u ≡ Some a
  pub onto : at p v ≡ Some b

joins_ends : (p : List (Option ℕ)) (u v a b x y : ℕ) → AreAt p u v a b → (is_this x (at p u) && is_this y (at p v)) ≡ (nat_eq x a && nat_eq y b)
joins_ends p u v a b x y ends = ap (λ o. is_this x o && is_this y (at p v)) ends.from ∙ ap (λ o. nat_eq x a && is_this y o) ends.onto

supports_linked : (g : Graph) (u v a b : ℕ) (q : Quotient) (d : Drafted) → has_edge g u v ≡ false → FitsOne g (view_of q) → AreSupportsAlone d → AreAt q.blocks.block_of u v a b
    → IsRaised q d a b → AreEdgeCounts (with_edge g u v) (shown_blocks q d) (shown_support q d)
supports_linked g u v a b q d absent fits alone ends r = record {
  each = λ x y.
      r.raised x y ∙ ap (λ n. n + one_if (nat_eq x a && nat_eq y b)) (fits.view.supports x y)
      ∙ ap (λ t. edges_between g.edges q.blocks.block_of x y + cond t 1 0) (sym (joins_ends q.blocks.block_of u v a b x y ends))
      ∙ sym (between_linked g.edges u v q.blocks.block_of x y absent)
      ∙ ap (λ p. edges_between (set.insert g.edges (u, v)) p x y) (sym (blocks_same q d alone));
}

supports_unlinked : (g : Graph) (u v a b : ℕ) (q : Quotient) (d : Drafted) → has_edge g u v ≡ true → FitsOne g (view_of q) → AreSupportsAlone d → AreAt q.blocks.block_of u v a b
    → IsLowered q d a b → AreEdgeCounts (without_edge g u v) (shown_blocks q d) (shown_support q d)
supports_unlinked g u v a b q d present fits alone ends r = record {
  each = λ x y.
      let one = ap one_if (joins_ends q.blocks.block_of u v a b x y ends) in
      let law = between_unlinked g.edges u v q.blocks.block_of x y present in
      let shown = r.lowered x y in
      let base = fits.view.supports x y in
      let same = ap (λ p. edges_between (set.remove g.edges (u, v)) p x y) (blocks_same q d alone) in
      omega (arith, one, law, shown, base, same);
}

partition_same : (g : Graph) (q : Quotient) (d : Drafted) → FitsOne g (view_of q) → AreSupportsAlone d → IsPartition (shape_of g) (shown_blocks q d)
partition_same g q d fits alone = subst (IsPartition (shape_of g)) (sym (blocks_same q d alone)) fits.index.stable.partition

block_labels_same : (g : Graph) (q : Quotient) (d : Drafted) → IsGraph g → FitsOne g (view_of q) → AreSupportsAlone d → BlocksHaveLabels (shown_blocks q d) (at (shown_labels q d)) (label_number g)
block_labels_same g q d graph fits alone =
    subst (λ (ls : List (Option ℕ)). BlocksHaveLabels (shown_blocks q d) (at ls) (label_number g)) (sym (labels_same q d alone))
    (subst (λ (p : List (Option ℕ)). BlocksHaveLabels p (at q.blocks.labels) (label_number g)) (sym (blocks_same q d alone))
    (block_labels_texts g q.blocks.block_of (at q.blocks.labels) graph (base_texts g (view_of q) fits.view)))

at_same : (q : Quotient) (d : Drafted) → AreSupportsAlone d → (n : ℕ) → at (shown_blocks q d) n ≡ at q.blocks.block_of n
at_same q d alone n = ap (λ (p : List (Option ℕ)). at p n) (blocks_same q d alone)

pub changed_link : (g : Graph) (u v a b : ℕ) (q : Quotient) (d : Drafted) → IsGraph g → has_edge g u v ≡ false → FitsOne g (view_of q) → IsOver q.blocks.block_of q.blocks.labels d
    → AreSupportsAlone d → AreAt q.blocks.block_of u v a b → IsRaised q d a b → ShowsChange g (link u v ∷ []) q d
changed_link g u v a b q d graph absent fits over alone ends r =
    let partition = partition_same g q d fits alone in
    let block_labels = block_labels_same g q d graph fits alone in
    record {
      over = over;
      partition = record { live = partition.live; only = partition.only };
      keeps = record { kept = λ n h k. at_same q d alone n };
      block_labels = record { is = λ n b off here. block_labels.is n b here };
      supports = supports_linked g u v a b q d absent fits alone ends r;
    }

pub changed_unlink : (g : Graph) (u v a b : ℕ) (q : Quotient) (d : Drafted) → IsGraph g → has_edge g u v ≡ true → FitsOne g (view_of q) → IsOver q.blocks.block_of q.blocks.labels d
    → AreSupportsAlone d → AreAt q.blocks.block_of u v a b → IsLowered q d a b → ShowsChange g (unlink u v ∷ []) q d
changed_unlink g u v a b q d graph present fits over alone ends r =
    let partition = partition_same g q d fits alone in
    let block_labels = block_labels_same g q d graph fits alone in
    record {
      over = over;
      partition = record { live = partition.live; only = partition.only };
      keeps = record { kept = λ n h k. at_same q d alone n };
      block_labels = record { is = λ n b off here. block_labels.is n b here };
      supports = supports_unlinked g u v a b q d present fits alone ends r;
    }

-- ---- where the target keeps its parent blocks

-- the block of u has support to that of v before the link
pub other_linked : (g : Graph) (u v a b : ℕ) (q : Quotient) → has_edge g u v ≡ false → FitsOne g (view_of q) → AreAt q.blocks.block_of u v a b → 0 < support_at q.supports a b
    → HasOther (shape_of (with_edge g u v)) q.blocks.block_of u v
other_linked g u v a b q absent fits ends some =
    let base = fits.view.supports a b in
    supported_other g u v a b q.blocks.block_of fits.index.stable absent ends.from ends.onto (support_adjacent g q.blocks.block_of a b (omega (arith, some, base)))

pub still_link : (g : Graph) (u v : ℕ) (q : Quotient) (d : Drafted) → IsGraph g → IsGraph (with_edge g u v) → FitsOne g (view_of q) → AreSupportsAlone d
    → HasOther (shape_of (with_edge g u v)) q.blocks.block_of u v → ShowsChange g (link u v ∷ []) q d → IsDrafted g (link u v ∷ []) q d
still_link g u v q d graph graph2 fits alone other changed = record {
  over = changed.over;
  step = subst (OneStep g q.blocks.block_of (link u v ∷ []) (with_edge g u v)) (sym (blocks_same q d alone))
      (one_step_still g q.blocks.block_of (link u v ∷ []) u v other.parent (is_shape g graph) (is_shape (with_edge g u v) graph2) (twin_link g u v q.blocks.block_of other)
      fits.index.stable fits.index.minimal);
  block_labels = record { is = λ n b here. changed.block_labels.is n b (not_relabelled g (with_edge g u v) n refl) here };
  supports = changed.supports;
}

pub still_unlink : (g : Graph) (u v : ℕ) (q : Quotient) (d : Drafted) → IsGraph g → IsGraph (without_edge g u v) → FitsOne g (view_of q) → AreSupportsAlone d
    → HasOther (shape_of (without_edge g u v)) q.blocks.block_of u v → ShowsChange g (unlink u v ∷ []) q d → IsDrafted g (unlink u v ∷ []) q d
still_unlink g u v q d graph graph2 fits alone other changed = record {
  over = changed.over;
  step = subst (OneStep g q.blocks.block_of (unlink u v ∷ []) (without_edge g u v)) (sym (blocks_same q d alone))
      (one_step_still g q.blocks.block_of (unlink u v ∷ []) u v other.parent (is_shape g graph) (is_shape (without_edge g u v) graph2) (twin_unlink g u v q.blocks.block_of other)
      fits.index.stable fits.index.minimal);
  block_labels = record { is = λ n b here. changed.block_labels.is n b (not_relabelled g (without_edge g u v) n refl) here };
  supports = changed.supports;
}

-- where the block of u has no support to that of v, the link gives v a parent block
pub none_linked : (g : Graph) (u v a b : ℕ) (q : Quotient) → FitsOne g (view_of q) → AreAt q.blocks.block_of u v a b → support_at q.supports a b ≡ 0
    → HasOther (shape_of (with_edge g u v)) q.blocks.block_of u v → ⊥
none_linked g u v a b q fits ends none other =
    let base = fits.view.supports a b in
    let edge = sym (edge_with g u v other.parent v ∙ ap (λ t. t || has_edge g other.parent v) (off u v other.parent other.other)) ∙ other.is_parent in
    let from = together_sym q.blocks.block_of other.parent u other.together in
    let more = adjacent_support g q.blocks.block_of a b (other.parent, v, edge, together_at q.blocks.block_of u other.parent a from ends.from, ends.onto) in
    omega (arith, base, none, more)
  where
    off : (u v w : ℕ) → w ≢ u → (nat_eq w u && nat_eq v v) ≡ false
    off u v w h = elim (eqb_tells w u) [ inl s ↦ absurd (h s.1) | inr k ↦ ap (λ t. t && nat_eq v v) k.0 ]

-- once the edge is taken away, a parent of v is another one than u
pub other_unlinked : (g : Graph) (u v w a : ℕ) (p : List (Option ℕ)) → IsTrue (has_edge (without_edge g u v) w v) → at p w ≡ Some a → at p u ≡ Some a
    → HasOther (shape_of (without_edge g u v)) p u v
other_unlinked g u v w a p edge at_w at_u = record {
  parent = w;
  other = λ s. true≢false (sym edge ∙ ap (λ m. has_edge (without_edge g u v) m v) s ∙ edge_without g u v u v ∙ ap (λ t. not t && has_edge g u v) (same u v));
  is_parent = edge;
  together = (a, at_w, at_u);
}
  where
    own : (n : ℕ) → nat_eq n n ≡ true
    own n = elim (eqb_tells n n) [ inl s ↦ s.0 | inr k ↦ absurd (k.1 refl) ]

    same : (u v : ℕ) → (nat_eq u u && nat_eq v v) ≡ true
    same u v = ap (λ t. t && nat_eq v v) (own u) ∙ own v

-- the edge that goes is counted
pub unlink_some : (g : Graph) (u v a b : ℕ) (q : Quotient) → has_edge g u v ≡ true → FitsOne g (view_of q) → AreAt q.blocks.block_of u v a b → 0 < support_at q.supports a b
unlink_some g u v a b q present fits ends =
    let base = fits.view.supports a b in
    let more = adjacent_support g q.blocks.block_of a b (u, v, present, ends.from, ends.onto) in
    omega (arith, base, more)
