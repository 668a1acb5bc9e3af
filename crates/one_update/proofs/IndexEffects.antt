-- A 1-index on the way to the graph that a change leaves.
use Rattle.std.proofs.Common.{◌≡◌, ℕ, ◌+◌, ◌<◌, ◌≤◌, ◌^◌, List, [], ◌∷◌, ◌++◌, length, Option, Some, None, IsSome, IsTrue, is_some, refl, sym, ◌∙◌, ap, subst, inl, inr, false, cond, take}
use Rattle.std.specs.Prelude.{nat_eq}
use Rattle.std.specs.FinSet as set
use Rattle.std.proofs.lemmas.Bool.Decides.{eqb_tells, Decides-eqb}
use Rattle.graph_spec.specs.Graphs.{Graph, IsGraph, is_live}
use Rattle.change_spec.specs.Steps.{Step, after}
use Rattle.graph_spec.specs.Members.{at, has}
use Rattle.graph_spec.specs.Shapes.{shape_of}
use Rattle.label_graph.specs.GraphViews.{label_number}
use Rattle.bisim_spec.specs.IndexGraphs.{support_at}
use Rattle.bisim_spec.specs.Partitions.{IsPartition}
use Rattle.bisim_spec.specs.Fits.{FitsOne}
use Rattle.block_partition.specs.LabelledPartitions.{put, IsLeastFree}
use Rattle.block_partition.proofs.PutNumbers.{at_put}
use Rattle.one_spec.specs.EdgeCounts.{AreEdgeCounts}
use Rattle.one_spec.specs.BlockLabels.{BlocksHaveLabels}
use Rattle.graph_effects.specs.Effects.{EffectLists, AreEffects, without_edges, with_edges}
use Rattle.graph_effects.specs.EffectBlocks.{HaveNodesMoved}
use Rattle.graph_effects.proofs.EdgeLists.{pair_at, counts_lowered, counts_raised, lowered_some, counts_agree, counts_few}
use Rattle.graph_effects.proofs.EffectLaws.{gone_parts, live_was, live_stayed, lost_edges, added_absent, off_edges, off_left, counts_after, put_else, moved_none, moved_came, moved_gone, moved_labels, moved_partition, moved_named}
use Rattle.graph_effects.proofs.ListedEffects.{within_after}
use Rattle.quotient.specs.Quotients.{Quotient, view_of}
use Rattle.quotient_draft.specs.Drafts.{Drafted, no_changes, shown_blocks, shown_labels, shown_support, with_added, with_supports, PutsNode}
use Rattle.quotient_draft.specs.Basis.{IsOver}
use Rattle.one_update.specs.OneDrafts.{ShowsChange}
use Rattle.one_update.proofs.Bases.{base_texts, block_labels_texts, over_none}
use Rattle.one_update.specs.EffectDrafts.{IsIndexOnWay, IsNodePut, IsNodeOut, IsPairLowered, IsPairRaised}

-- ---- one node or edge

-- a further block has the label that it was made with, and the others keep theirs
pub node_put : (q : Quotient) (n label b : ℕ) (d d1 d2 : Drafted) (es : List (ℕ × ℕ)) → IsLeastFree (shown_labels q d) b → d1 ≡ record d { added = es }
    → shown_labels q d1 ≡ put (shown_labels q d) b label → PutsNode n (Some b) (shown_blocks q d1) (shown_blocks q d2) → d2.added ≡ d1.added → d2.supports ≡ d1.supports
    → IsOver q.blocks.block_of q.blocks.labels d2 → IsNodePut q n label d d2
node_put q n label b d d1 d2 es least made labels moved added supports over = record {
  block = b;
  blocks = λ m. moved m ∙ ap (λ (c : Drafted). cond (nat_eq m n) (Some b) (at (shown_blocks q c) m)) made;
  label_is = shown b ∙ ap (λ t. cond t (Some label) (at (shown_labels q d) b)) ((Decides-eqb b b).1 refl);
  labels = λ x l e. elim (eqb_tells x b) [
    | inl s ↦ absurd (let both : None ≡ Some l = sym least.free ∙ ap (at (shown_labels q d)) (sym s.1) ∙ e in cc)
    | inr o ↦ shown x ∙ ap (λ t. cond t (Some label) (at (shown_labels q d) x)) o.0 ∙ e
  ];
  supports = λ x y. ap (λ s. support_at (with_supports q.supports s) x y) (supports ∙ ap (λ (c : Drafted). c.supports) made);
  over = over;
}
  where
    shown : (x : ℕ) → at (shown_labels q d2) x ≡ cond (nat_eq x b) (Some label) (at (shown_labels q d) x)
    shown x = ap (λ ls. at (with_added q.blocks.labels ls) x) added ∙ ap (λ (ls : List (Option ℕ)). at ls x) labels ∙ at_put (shown_labels q d) b label x

-- ---- all of them

-- what the base shows of the graph before
pub record IsIndexBase (g : Graph) (q : Quotient) : Type 0 where
  pub partition : IsPartition (shape_of g) q.blocks.block_of
  pub named : BlocksHaveLabels q.blocks.block_of (at q.blocks.labels) (label_number g)
  pub supports : AreEdgeCounts g q.blocks.block_of (support_at q.supports)

pub index_base : (g : Graph) (q : Quotient) → IsGraph g → FitsOne g (view_of q) → IsIndexBase g q
index_base g q graph fits = record {
  partition = fits.index.stable.partition;
  named = block_labels_texts g q.blocks.block_of (at q.blocks.labels) graph (base_texts g (view_of q) fits.view);
  supports = record { each = fits.view.supports };
}

-- nothing is drafted yet
pub index_start : (g g2 : Graph) (q : Quotient) (d : Drafted) → IsIndexBase g q → d ≡ no_changes → IsIndexOnWay g2 g [] [] q d
index_start g g2 q d base none =
    let blocks : (n : ℕ) → at (shown_blocks q d) n ≡ at q.blocks.block_of n = λ n. ap (λ (c : Drafted). at (shown_blocks q c) n) none in
    record {
      over = subst (IsOver q.blocks.block_of q.blocks.labels) (sym none) (over_none q.blocks.block_of q.blocks.labels);
      labels = λ b l e. ap (λ (c : Drafted). at (shown_labels q c) b) none ∙ e;
      nodes = moved_none g2 q.blocks.block_of (shown_blocks q d) (at (shown_labels q d)) blocks;
      supports = counts_agree g q.blocks.block_of (shown_blocks q d) (support_at q.supports) (shown_support q d) base.supports (λ u v on. (blocks u, blocks v))
          (λ x y. ap (λ (c : Drafted). shown_support q c x y) none);
    }

-- one more node has come
pub index_joined : (g g2 : Graph) (came : List ℕ) (q : Quotient) (d d2 : Drafted) (n label : ℕ) → IsGraph g → is_live g n ≡ false → IsIndexOnWay g2 g came [] q d
    → label_number g2 n ≡ Some label → IsNodePut q n label d d2 → IsIndexOnWay g2 g (came ++ n ∷ []) [] q d2
index_joined g g2 came q d d2 n label graph dead w is j = record {
  over = j.over;
  labels = λ b l e. j.labels b l (w.labels b l e);
  nodes = moved_came g2 q.blocks.block_of (shown_blocks q d) (shown_blocks q d2) (at (shown_labels q d)) (at (shown_labels q d2)) came n j.block label w.nodes j.blocks j.labels j.label_is is;
  supports = counts_agree g (shown_blocks q d) (shown_blocks q d2) (shown_support q d) (shown_support q d2) w.supports (λ u v on.
      let off = off_edges g n u v graph dead on in
      (put_else n (Some j.block) (shown_blocks q d) (shown_blocks q d2) j.blocks u off.0, put_else n (Some j.block) (shown_blocks q d) (shown_blocks q d2) j.blocks v off.1)) j.supports;
}

-- labels have stayed
index_kept : (g2 h h2 : Graph) (came gone came2 gone2 : List ℕ) (q : Quotient) (d d2 : Drafted) → IsIndexOnWay g2 h came gone q d → shown_labels q d2 ≡ shown_labels q d
    → IsOver q.blocks.block_of q.blocks.labels d2 → HaveNodesMoved g2 q.blocks.block_of (shown_blocks q d2) (at (shown_labels q d)) came2 gone2
    → AreEdgeCounts h2 (shown_blocks q d2) (shown_support q d2) → IsIndexOnWay g2 h2 came2 gone2 q d2
index_kept g2 h h2 came gone came2 gone2 q d d2 w labels over nodes supports = record {
  over = over;
  labels = λ b l e. ap (λ (ls : List (Option ℕ)). at ls b) labels ∙ w.labels b l e;
  nodes = moved_labels g2 q.blocks.block_of (shown_blocks q d2) (shown_blocks q d2) (at (shown_labels q d)) (at (shown_labels q d2)) came2 gone2 nodes (λ m. refl)
      (λ c. ap (λ (ls : List (Option ℕ)). at ls c) labels);
  supports = supports;
}

-- one more node has gone
pub index_left : (g g2 : Graph) (e : EffectLists) (gone : List ℕ) (q : Quotient) (d d2 : Drafted) (n : ℕ) → AreEffects g g2 e → IsGraph g2 → IsTrue (has e.gone n)
    → IsIndexOnWay g2 (without_edges g e.lost) e.came gone q d → IsNodeOut q n d d2 → IsIndexOnWay g2 (without_edges g e.lost) e.came (gone ++ n ∷ []) q d2
index_left g g2 e gone q d d2 n w graph on way l =
    let parts = gone_parts g g2 e n w on in
    index_kept g2 (without_edges g e.lost) (without_edges g e.lost) e.came gone e.came (gone ++ n ∷ []) q d d2 way l.labels l.over
    (moved_gone g2 q.blocks.block_of (shown_blocks q d) (shown_blocks q d2) (at (shown_labels q d)) e.came gone n way.nodes l.blocks (live_was g g2 e n w parts.0))
    (counts_agree (without_edges g e.lost) (shown_blocks q d) (shown_blocks q d2) (shown_support q d) (shown_support q d2) way.supports (λ u v there.
    let off = off_left g g2 e n u v w graph parts.1 there in
    (put_else n None (shown_blocks q d) (shown_blocks q d2) l.blocks u off.0, put_else n None (shown_blocks q d) (shown_blocks q d2) l.blocks v off.1)) l.supports)

index_counted : (g2 h h2 : Graph) (came gone : List ℕ) (q : Quotient) (d d2 : Drafted) → IsIndexOnWay g2 h came gone q d → shown_blocks q d2 ≡ shown_blocks q d
    → shown_labels q d2 ≡ shown_labels q d → IsOver q.blocks.block_of q.blocks.labels d2 → AreEdgeCounts h2 (shown_blocks q d) (shown_support q d2) → IsIndexOnWay g2 h2 came gone q d2
index_counted g2 h h2 came gone q d d2 w blocks labels over counts =
    index_kept g2 h h2 came gone came gone q d d2 w labels over
    (moved_labels g2 q.blocks.block_of (shown_blocks q d) (shown_blocks q d2) (at (shown_labels q d)) (at (shown_labels q d)) came gone w.nodes (λ m. ap (λ (p : List (Option ℕ)). at p m) blocks)
    (λ c. refl))
    (subst (λ (p : List (Option ℕ)). AreEdgeCounts h2 p (shown_support q d2)) (sym blocks) counts)

-- one more edge has gone
pub index_lowered : (g g2 : Graph) (e : EffectLists) (q : Quotient) (d d2 : Drafted) (j : ℕ) → AreEffects g g2 e → j < length e.lost
    → IsIndexOnWay g2 (without_edges g (take j e.lost)) e.came [] q d → IsPairLowered q (pair_at e.lost j).0 (pair_at e.lost j).1 d d2
    → IsIndexOnWay g2 (without_edges g (take (j + 1) e.lost)) e.came [] q d2
index_lowered g g2 e q d d2 j w h way l =
    index_counted g2 (without_edges g (take j e.lost)) (without_edges g (take (j + 1) e.lost)) e.came [] q d d2 way l.blocks l.labels l.over
    (counts_lowered g e.lost j l.first l.second (shown_blocks q d) (shown_support q d) (shown_support q d2) w.lost.once (lost_edges g g2 e w) h way.supports
    (record { from = l.from; onto = l.onto }) l.lowered)

-- one more edge has come
pub index_raised : (g g2 : Graph) (e : EffectLists) (q : Quotient) (d d2 : Drafted) (j : ℕ) → AreEffects g g2 e → j < length e.added
    → IsIndexOnWay g2 (with_edges (without_edges g e.lost) (take j e.added)) e.came e.gone q d → IsPairRaised q (pair_at e.added j).0 (pair_at e.added j).1 d d2
    → IsIndexOnWay g2 (with_edges (without_edges g e.lost) (take (j + 1) e.added)) e.came e.gone q d2
index_raised g g2 e q d d2 j w h way l =
    index_counted g2 (with_edges (without_edges g e.lost) (take j e.added)) (with_edges (without_edges g e.lost) (take (j + 1) e.added)) e.came e.gone q d d2 way l.blocks l.labels l.over
    (counts_raised (without_edges g e.lost) e.added j l.first l.second (shown_blocks q d) (shown_support q d) (shown_support q d2) w.added.once (added_absent g g2 e w) h way.supports
    (record { from = l.from; onto = l.onto }) l.raised)

-- a node of the graph before has its block still, while none has gone
pub index_old : (g g2 h : Graph) (e : EffectLists) (q : Quotient) (d : Drafted) (n : ℕ) → AreEffects g g2 e → IsIndexBase g q → IsTrue (is_live g n) → IsIndexOnWay g2 h e.came [] q d
    → IsSome (at (shown_blocks q d) n)
index_old g g2 h e q d n w base live way = ap is_some (way.nodes.others n (live_was g g2 e n w live) refl) ∙ base.partition.live n live

-- a node of the graph after has a block, once all have come and gone
pub index_new : (g g2 h : Graph) (e : EffectLists) (q : Quotient) (d : Drafted) (n : ℕ) → AreEffects g g2 e → IsIndexBase g q → IsTrue (is_live g2 n) → IsIndexOnWay g2 h e.came e.gone q d
    → IsSome (at (shown_blocks q d) n)
index_new g g2 h e q d n w base live way =
    (moved_partition g g2 e q.blocks.block_of (shown_blocks q d) (at (shown_labels q d)) w base.partition way.nodes).live n live

-- the next edge that goes is counted
pub index_some : (g g2 : Graph) (e : EffectLists) (q : Quotient) (d : Drafted) (j x y : ℕ) → AreEffects g g2 e → j < length e.lost
    → IsIndexOnWay g2 (without_edges g (take j e.lost)) e.came [] q d → at (shown_blocks q d) (pair_at e.lost j).0 ≡ Some x → at (shown_blocks q d) (pair_at e.lost j).1 ≡ Some y
    → 0 < shown_support q d x y
index_some g g2 e q d j x y w h way from onto =
    lowered_some g e.lost j x y (shown_blocks q d) (shown_support q d) w.lost.once (lost_edges g g2 e w) h way.supports (record { from = from; onto = onto })

-- supports are small while edges come
pub index_few : (g g2 : Graph) (e : EffectLists) (q : Quotient) (d : Drafted) (j : ℕ) → AreEffects g g2 e → set.len g2.edges ≤ 2 ^ 30
    → IsIndexOnWay g2 (with_edges (without_edges g e.lost) (take j e.added)) e.came e.gone q d → (x y : ℕ) → shown_support q d x y < 2 ^ 31
index_few g g2 e q d j w few way x y =
    counts_few (with_edges (without_edges g e.lost) (take j e.added)) g2 (shown_blocks q d) (shown_support q d) x y way.supports (λ u v h. within_after g g2 e j u v w h) few

-- All effects are drafted: the draft shows the graph after the change, with nodes in the blocks in which they were.
pub index_done : (g : Graph) (c : List Step) (e : EffectLists) (q : Quotient) (d : Drafted) → AreEffects g (after c g) e → IsGraph (after c g) → IsIndexBase g q
    → IsIndexOnWay (after c g) (with_edges (without_edges g e.lost) e.added) e.came e.gone q d → ShowsChange g c q d
index_done g c e q d w graph base way = record {
  over = way.over;
  partition = moved_partition g (after c g) e q.blocks.block_of (shown_blocks q d) (at (shown_labels q d)) w base.partition way.nodes;
  keeps = record { kept = λ n old new. way.nodes.others n (live_was g (after c g) e n w old) (live_stayed g (after c g) e n w new) };
  block_labels = record {
    is = λ n b off here.
        (moved_named g (after c g) e q.blocks.block_of (shown_blocks q d) (at q.blocks.labels) (at (shown_labels q d)) w graph base.partition base.named way.labels way.nodes).is n b
        (w.relabelled.members n ∙ off) here;
  };
  supports = counts_after g (after c g) e (shown_blocks q d) (shown_support q d) w way.supports;
}
