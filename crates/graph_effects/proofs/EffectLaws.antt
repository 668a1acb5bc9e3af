-- What effects say of the two graphs between which they lead.
use Rattle.std.proofs.Common.{◌≡◌, ℕ, List, [], ◌∷◌, ◌++◌, Option, Some, None, IsTrue, IsFalse, is_some, refl, sym, ◌∙◌, ap, inl, inr, true, false, Bool, cond, true≢false}
use Rattle.std.specs.Prelude.{nat_eq, ◌&&◌, ◌||◌, not, slice_get, option_and_then, position, bytes_eq}
use Rattle.std.proofs.Math.Bool.{or-false}
use Rattle.std.proofs.lemmas.Bool.{cases_Bool, and_parts, false_from_ne_true}
use Rattle.std.proofs.lemmas.Bool.Decides.{eqb_tells}
use Rattle.std.proofs.lemmas.List.Folds.{list_any-append}
use Rattle.graph_spec.specs.Graphs.{Graph, IsGraph, is_live, label_of, has_edge}
use Rattle.graph_spec.specs.Members.{at, has}
use Rattle.graph_spec.specs.Shapes.{IsNode, shape_of}
use Rattle.label_graph.specs.GraphViews.{label_number}
use Rattle.label_graph.proofs.Positions.{text-at, position-at}
use Rattle.bisim_spec.specs.Partitions.{IsPartition}
use Rattle.bisim_spec.proofs.Bisimilar.{is_some_at}
use Rattle.bisim_spec.proofs.Outside.{DiffersAt}
use Rattle.one_spec.specs.BlockLabels.{BlocksHaveLabels, BlocksHaveLabelsBut}
use Rattle.one_spec.specs.EdgeCounts.{AreEdgeCounts}
use Rattle.graph_effects.specs.Effects.{EffectLists, AreEffects, has_pair, without_edges, with_edges, is_same_label}
use Rattle.graph_effects.specs.EffectBlocks.{HaveNodesMoved}
use Rattle.graph_effects.proofs.Relabelled.{same_text}
use Rattle.graph_effects.proofs.EdgeLists.{edge_left, edge_there, AreEdges, AreNoEdges, counts_same}

-- ---- nodes

-- a node that comes is live after alone
pub came_parts : (g g2 : Graph) (e : EffectLists) (n : ℕ) → AreEffects g g2 e → IsTrue (has e.came n) → IsTrue (is_live g2 n) × (is_live g n ≡ false)
came_parts g g2 e n w h =
    let both = and_parts (is_live g2 n) (not (is_live g n)) (sym (w.came.members n) ∙ h) in
    (both.0, not_true (is_live g n) both.1)
  where
    not_true : (b : Bool) → not b ≡ true → b ≡ false
    not_true true k = sym k
    not_true false k = refl

-- a node that goes is live before alone
pub gone_parts : (g g2 : Graph) (e : EffectLists) (n : ℕ) → AreEffects g g2 e → IsTrue (has e.gone n) → IsTrue (is_live g n) × (is_live g2 n ≡ false)
gone_parts g g2 e n w h =
    let both = and_parts (is_live g n) (not (is_live g2 n)) (sym (w.gone.members n) ∙ h) in
    (both.0, not_true (is_live g2 n) both.1)
  where
    not_true : (b : Bool) → not b ≡ true → b ≡ false
    not_true true k = sym k
    not_true false k = refl

other_way : (a b : Bool) → (a && not b) ≡ false → a ≡ true → b ≡ true
other_way true true h k = refl
other_way true false h k = sym h
other_way false b h k = absurd (true≢false (sym k))

-- a node of the second graph that hasn't come was one before
pub was_live : (g g2 : Graph) (e : EffectLists) (n : ℕ) → AreEffects g g2 e → IsTrue (is_live g2 n) → IsFalse (has e.came n) → IsTrue (is_live g n)
was_live g g2 e n w live h = other_way (is_live g2 n) (is_live g n) (sym (w.came.members n) ∙ h) live

-- a node of the first graph that hasn't gone is one after
pub stays_live : (g g2 : Graph) (e : EffectLists) (n : ℕ) → AreEffects g g2 e → IsTrue (is_live g n) → IsFalse (has e.gone n) → IsTrue (is_live g2 n)
stays_live g g2 e n w live h = other_way (is_live g n) (is_live g2 n) (sym (w.gone.members n) ∙ h) live

-- a node of the second graph hasn't gone
pub live_stayed : (g g2 : Graph) (e : EffectLists) (n : ℕ) → AreEffects g g2 e → IsTrue (is_live g2 n) → IsFalse (has e.gone n)
live_stayed g g2 e n w live = false_from_ne_true (has e.gone n) (λ h. true≢false (sym live ∙ (gone_parts g g2 e n w h).1))

-- a node of the first graph hasn't come
pub live_was : (g g2 : Graph) (e : EffectLists) (n : ℕ) → AreEffects g g2 e → IsTrue (is_live g n) → IsFalse (has e.came n)
live_was g g2 e n w live = false_from_ne_true (has e.came n) (λ h. true≢false (sym live ∙ (came_parts g g2 e n w h).1))

-- ---- labels that stay

-- a node that gets another label is one of both graphs
pub relabelled_parts : (g g2 : Graph) (e : EffectLists) (n : ℕ) → AreEffects g g2 e → IsTrue (has e.relabelled n) → IsTrue (is_live g n) × IsTrue (is_live g2 n)
relabelled_parts g g2 e n w h =
    and_parts (is_live g n) (is_live g2 n) (and_parts (is_live g n && is_live g2 n) (not (is_same_label (label_of g n) (label_of g2 n))) (sym (w.relabelled.members n) ∙ h)).0

-- a node of both graphs that gets no other label keeps its own
pub label_kept : (g g2 : Graph) (e : EffectLists) (n : ℕ) → AreEffects g g2 e → IsTrue (is_live g n) → IsTrue (is_live g2 n) → IsFalse (has e.relabelled n) → label_of g2 n ≡ label_of g n
label_kept g g2 e n w live live2 off =
    same_text (label_of g n) (label_of g2 n) (one (is_live g n) (is_live g2 n) (is_same_label (label_of g n) (label_of g2 n)) live live2 (sym (w.relabelled.members n) ∙ off))
  where
    one : (a b s : Bool) → a ≡ true → b ≡ true → ((a && b) && not s) ≡ false → s ≡ true
    one true true true h k off = refl
    one true true false h k off = sym off
    one true false s h k off = absurd (true≢false (sym k))
    one false b s h k off = absurd (true≢false (sym h))

-- ---- edges

new_parts : (a b : Bool) → (a && not b) ≡ true → (a ≡ true) × (b ≡ false)
new_parts true true h = absurd (true≢false (sym h))
new_parts true false h = (refl, refl)
new_parts false b h = absurd (true≢false (sym h))

pub lost_edges : (g g2 : Graph) (e : EffectLists) → AreEffects g g2 e → AreEdges g e.lost
lost_edges g g2 e w = record { there = λ u v h. (new_parts (has_edge g u v) (has_edge g2 u v) (sym (w.lost.members u v) ∙ h)).0 }

-- what is added isn't there once what is lost is gone
pub added_absent : (g g2 : Graph) (e : EffectLists) → AreEffects g g2 e → AreNoEdges (without_edges g e.lost) e.added
added_absent g g2 e w = record {
  absent = λ u v h.
      let none = (new_parts (has_edge g2 u v) (has_edge g u v) (sym (w.added.members u v) ∙ h)).1 in
      edge_left g e.lost u v ∙ ap (λ b. not (has_pair e.lost u v) && b) none ∙ off (has_pair e.lost u v);
}
  where
    off : (b : Bool) → (not b && false) ≡ false
    off true = refl
    off false = refl

-- a number that isn't a node has no edge
pub off_edges : (g : Graph) (n u v : ℕ) → IsGraph g → is_live g n ≡ false → has_edge g u v ≡ true → (nat_eq u n ≡ false) × (nat_eq v n ≡ false)
off_edges g n u v graph dead on = (
  false_from_ne_true (nat_eq u n) (λ h. elim (eqb_tells u n) [ inl s ↦ true≢false (sym (graph.from u v on) ∙ ap (is_live g) s.1 ∙ dead) | inr o ↦ absurd (true≢false (sym h ∙ o.0)) ]),
  false_from_ne_true (nat_eq v n) (λ h. elim (eqb_tells v n) [ inl s ↦ true≢false (sym (graph.onto u v on) ∙ ap (is_live g) s.1 ∙ dead) | inr o ↦ absurd (true≢false (sym h ∙ o.0)) ]),
)

-- what is left is in both graphs
pub left_in_both : (g g2 : Graph) (e : EffectLists) (u v : ℕ) → AreEffects g g2 e → has_edge (without_edges g e.lost) u v ≡ true → (has_edge g u v ≡ true) × (has_edge g2 u v ≡ true)
left_in_both g g2 e u v w h =
    kept (has_edge g u v) (has_edge g2 u v)
    (ap (λ b. not b && has_edge g u v) (sym (w.lost.members u v)) ∙ sym (edge_left g e.lost u v) ∙ h)
  where
    kept : (a b : Bool) → (not (a && not b) && a) ≡ true → (a ≡ true) × (b ≡ true)
    kept true true k = (refl, refl)
    kept true false k = absurd (true≢false (sym k))
    kept false b k = absurd (true≢false (sym (ap (λ t. t) k) ∙ none b))
      where
        none : (b : Bool) → (not (false && not b) && false) ≡ false
        none b = refl

-- no edge that is left is one of a node that goes
pub off_left : (g g2 : Graph) (e : EffectLists) (n u v : ℕ) → AreEffects g g2 e → IsGraph g2 → is_live g2 n ≡ false → has_edge (without_edges g e.lost) u v ≡ true
    → (nat_eq u n ≡ false) × (nat_eq v n ≡ false)
off_left g g2 e n u v w graph dead on = off_edges g2 n u v graph dead (left_in_both g g2 e u v w on).1

all_there : (a b : Bool) → ((b && not a) || (not (a && not b) && a)) ≡ b
all_there true true = refl
all_there true false = refl
all_there false true = refl
all_there false false = refl

-- once what is lost is gone and what is added has come, the edges are those of the second graph
pub edges_after : (g g2 : Graph) (e : EffectLists) (u v : ℕ) → AreEffects g g2 e → has_edge (with_edges (without_edges g e.lost) e.added) u v ≡ has_edge g2 u v
edges_after g g2 e u v w =
    edge_there (without_edges g e.lost) e.added u v
    ∙ ap (λ b. b || has_edge (without_edges g e.lost) u v) (w.added.members u v)
    ∙ ap (λ b. (has_edge g2 u v && not (has_edge g u v)) || b) (edge_left g e.lost u v ∙ ap (λ b. not b && has_edge g u v) (w.lost.members u v))
    ∙ all_there (has_edge g u v) (has_edge g2 u v)

pub counts_after : (g g2 : Graph) (e : EffectLists) (block : List (Option ℕ)) (support : ℕ → ℕ → ℕ) → AreEffects g g2 e
    → AreEdgeCounts (with_edges (without_edges g e.lost) e.added) block support → AreEdgeCounts g2 block support
counts_after g g2 e block support w counts =
    counts_same (with_edges (without_edges g e.lost) e.added) g2 block support (λ u v. edges_after g g2 e u v w) counts

-- ---- the graphs differ at the targets alone

pub no_change : (a b : Bool) → (a && not b) ≡ false → (b && not a) ≡ false → a ≡ b
no_change true true h k = refl
no_change true false h k = absurd (true≢false h)
no_change false true h k = absurd (true≢false k)
no_change false false h k = refl

pub effects_label : (g g2 : Graph) (e : EffectLists) (n : ℕ) → AreEffects g g2 e → IsNode (shape_of g2) n → IsFalse (has e.targets n) → label_of g n ≡ label_of g2 n
effects_label g g2 e n w live off =
    sym (label_kept g g2 e n w (was_live g g2 e n w live (false_from_ne_true (has e.came n) (λ h. true≢false (sym (w.target_came n h) ∙ off)))) live
    (false_from_ne_true (has e.relabelled n) (λ h. true≢false (sym (w.target_relabelled n h) ∙ off))))

pub effects_edge : (g g2 : Graph) (e : EffectLists) (p n : ℕ) → AreEffects g g2 e → IsNode (shape_of g2) n → IsFalse (has e.targets n) → has_edge g p n ≡ has_edge g2 p n
effects_edge g g2 e p n w live off =
    no_change (has_edge g p n) (has_edge g2 p n)
    (sym (w.lost.members p n) ∙ false_from_ne_true (has_pair e.lost p n) (λ h. true≢false (sym (w.target_lost p n h live) ∙ off)))
    (sym (w.added.members p n) ∙ false_from_ne_true (has_pair e.added p n) (λ h. true≢false (sym (w.target_added p n h) ∙ off)))

pub effects_differ : (g g2 : Graph) (e : EffectLists) → AreEffects g g2 e → DiffersAt (has e.targets) (shape_of g) (shape_of g2)
effects_differ g g2 e w = record { label = λ n live off. effects_label g g2 e n w live off; edge = λ p n live off. effects_edge g g2 e p n w live off }

-- ---- labels

-- a node of both graphs that gets no other label keeps the number of its label
pub number_kept : (g g2 : Graph) (e : EffectLists) (n d : ℕ) → AreEffects g g2 e → IsGraph g2 → IsTrue (is_live g n) → IsTrue (is_live g2 n) → IsFalse (has e.relabelled n)
    → label_number g n ≡ Some d → label_number g2 n ≡ Some d
number_kept g g2 e n d w graph live live2 off h =
    let t = text_of (label_of g n) g.seen d h in
    ap (option_and_then (λ s. position (bytes_eq s) g2.seen)) (label_kept g g2 e n w live live2 off ∙ t.2) ∙ position-at g2.seen d t.0 graph.distinct (w.seen d t.0 t.1)
  where
    text_of : (o : Option (List ℕ)) (seen : List (List ℕ)) (d : ℕ) → option_and_then (λ t. position (bytes_eq t) seen) o ≡ Some d
        → (t : List ℕ) × (slice_get seen d ≡ Some t) × (o ≡ Some t)
    text_of None seen d h = absurd (cc)
    text_of (Some t) seen d h = (t, text-at t seen d h, refl)

-- ---- blocks on the way

pub has_last : (xs : List ℕ) (n m : ℕ) → has (xs ++ n ∷ []) m ≡ (has xs m || nat_eq m n)
has_last xs n m = list_any-append (nat_eq m) xs (n ∷ []) ∙ ap (λ b. has xs m || b) (or-false (nat_eq m n))

either_of : (a b : Bool) → (a || b) ≡ true → b ≡ false → a ≡ true
either_of true b h k = refl
either_of false b h k = absurd (true≢false (sym h ∙ k))

neither_of : (a b : Bool) → (a || b) ≡ false → (a ≡ false) × (b ≡ false)
neither_of true b h = absurd (true≢false h)
neither_of false b h = (refl, h)

put_here : (n : ℕ) (o : Option ℕ) (block block2 : List (Option ℕ)) → ((m : ℕ) → at block2 m ≡ cond (nat_eq m n) o (at block m)) → (m : ℕ) → nat_eq m n ≡ true → at block2 m ≡ o
put_here n o block block2 put m h = put m ∙ ap (λ t. cond t o (at block m)) h

-- the other nodes are where they were
pub put_else : (n : ℕ) (o : Option ℕ) (block block2 : List (Option ℕ)) → ((m : ℕ) → at block2 m ≡ cond (nat_eq m n) o (at block m)) → (m : ℕ) → nat_eq m n ≡ false → at block2 m ≡ at block m
put_else n o block block2 put m h = put m ∙ ap (λ t. cond t o (at block m)) h

pub moved_none : (g2 : Graph) (base block : List (Option ℕ)) (labels : ℕ → Option ℕ) → ((n : ℕ) → at block n ≡ at base n) → HaveNodesMoved g2 base block labels [] []
moved_none g2 base block labels same = record {
  joined = λ n h. absurd (true≢false (sym h));
  left = λ n h. absurd (true≢false (sym h));
  others = λ n h k. same n;
}

-- one more node has come
pub moved_came : (g2 : Graph) (base block block2 : List (Option ℕ)) (labels labels2 : ℕ → Option ℕ) (came : List ℕ) (n b d : ℕ) → HaveNodesMoved g2 base block labels came []
    → ((m : ℕ) → at block2 m ≡ cond (nat_eq m n) (Some b) (at block m)) → ((c l : ℕ) → labels c ≡ Some l → labels2 c ≡ Some l) → labels2 b ≡ Some d → label_number g2 n ≡ Some d
    → HaveNodesMoved g2 base block2 labels2 (came ++ n ∷ []) []
moved_came g2 base block block2 labels labels2 came n b d w put kept label number = record {
  joined = λ m h. elim (eqb_tells m n) [
    | inl s ↦ (b, d, put_here n (Some b) block block2 put m s.0, label, ap (label_number g2) s.1 ∙ number)
    | inr o ↦ (
        let r = w.joined m (either_of (has came m) (nat_eq m n) (sym (has_last came n m) ∙ h) o.0) in
        (r.0, r.1, put_else n (Some b) block block2 put m o.0 ∙ r.2, kept r.0 r.1 r.3, r.4))
  ];
  left = λ m h. absurd (true≢false (sym h));
  others = λ m h k.
      let off = neither_of (has came m) (nat_eq m n) (sym (has_last came n m) ∙ h) in
      put_else n (Some b) block block2 put m off.1 ∙ w.others m off.0 k;
}

-- one more node has gone
pub moved_gone : (g2 : Graph) (base block block2 : List (Option ℕ)) (labels : ℕ → Option ℕ) (came gone : List ℕ) (n : ℕ) → HaveNodesMoved g2 base block labels came gone
    → ((m : ℕ) → at block2 m ≡ cond (nat_eq m n) None (at block m)) → IsFalse (has came n) → HaveNodesMoved g2 base block2 labels came (gone ++ n ∷ [])
moved_gone g2 base block block2 labels came gone n w put none = record {
  joined = λ m h. elim (eqb_tells m n) [
    | inl s ↦ absurd (true≢false (sym h ∙ ap (has came) s.1 ∙ none))
    | inr o ↦ (let r = w.joined m h in (r.0, r.1, put_else n None block block2 put m o.0 ∙ r.2, r.3, r.4))
  ];
  left = λ m h. elim (eqb_tells m n) [
    | inl s ↦ put_here n None block block2 put m s.0
    | inr o ↦ put_else n None block block2 put m o.0 ∙ w.left m (either_of (has gone m) (nat_eq m n) (sym (has_last gone n m) ∙ h) o.0)
  ];
  others = λ m h k.
      let off = neither_of (has gone m) (nat_eq m n) (sym (has_last gone n m) ∙ k) in
      put_else n None block block2 put m off.1 ∙ w.others m h off.0;
}

-- other labels of blocks, all of which stay
pub moved_labels : (g2 : Graph) (base block block2 : List (Option ℕ)) (labels labels2 : ℕ → Option ℕ) (came gone : List ℕ) → HaveNodesMoved g2 base block labels came gone
    → ((m : ℕ) → at block2 m ≡ at block m) → ((c : ℕ) → labels2 c ≡ labels c) → HaveNodesMoved g2 base block2 labels2 came gone
moved_labels g2 base block block2 labels labels2 came gone w same kept = record {
  joined = λ m h. (let r = w.joined m h in (r.0, r.1, same m ∙ r.2, kept r.0 ∙ r.3, r.4));
  left = λ m h. same m ∙ w.left m h;
  others = λ m h k. same m ∙ w.others m h k;
}

-- Once all have come and gone, exactly the nodes of the second graph have blocks.
pub moved_partition : (g g2 : Graph) (e : EffectLists) (base block : List (Option ℕ)) (labels : ℕ → Option ℕ) → AreEffects g g2 e → IsPartition (shape_of g) base
    → HaveNodesMoved g2 base block labels e.came e.gone → IsPartition (shape_of g2) block
moved_partition g g2 e base block labels w partition m = record {
  live = λ n live. elim (cases_Bool (has e.came n)) [
    | inl on ↦ (let r = m.joined n on in is_some_at (at block n) r.0 r.2)
    | inr off ↦ ap is_some (m.others n off (live_stayed g g2 e n w live)) ∙ partition.live n (was_live g g2 e n w live off)
  ];
  only = λ n some. elim (cases_Bool (has e.came n)) [
    | inl on ↦ (came_parts g g2 e n w on).0
    | inr off ↦ elim (cases_Bool (has e.gone n)) [
      | inl went ↦ absurd (true≢false (sym some ∙ ap is_some (m.left n went)))
      | inr stayed ↦ stays_live g g2 e n w (partition.only n (sym (ap is_some (m.others n off stayed)) ∙ some)) stayed
    ]
  ];
}

-- and blocks have the labels of their members, but for those that get another label
pub moved_named : (g g2 : Graph) (e : EffectLists) (base block : List (Option ℕ)) (base_labels labels : ℕ → Option ℕ) → AreEffects g g2 e → IsGraph g2 → IsPartition (shape_of g) base
    → BlocksHaveLabels base base_labels (label_number g) → ((c l : ℕ) → base_labels c ≡ Some l → labels c ≡ Some l) → HaveNodesMoved g2 base block labels e.came e.gone
    → BlocksHaveLabelsBut (has e.relabelled) block labels (label_number g2)
moved_named g g2 e base block base_labels labels w graph partition named kept m = record {
  is = λ n b same here. elim (cases_Bool (has e.came n)) [
    | inl on ↦ (
        let r = m.joined n on in
        let one : r.0 ≡ b = same_some r.0 b (sym r.2 ∙ here) in
        (r.1, ap labels (sym one) ∙ r.3, r.4))
    | inr off ↦ elim (cases_Bool (has e.gone n)) [
      | inl went ↦ absurd (none_some b (sym (m.left n went) ∙ here))
      | inr stayed ↦ (
          let there = sym (m.others n off stayed) ∙ here in
          let live = partition.only n (is_some_at (at base n) b there) in
          let r = named.is n b there in
          (r.0, kept b r.0 r.1, number_kept g g2 e n r.0 w graph live (stays_live g g2 e n w live stayed) same r.2))
    ]
  ];
}
  where
    same_some : (x y : ℕ) → Some x ≡ Some y → x ≡ y
    same_some x y e = cc

    none_some : (b : ℕ) → None ≡ Some b → ⊥
    none_some b e = cc

-- a node of both graphs has the block that it had
pub moved_far : (g g2 : Graph) (e : EffectLists) (base block : List (Option ℕ)) (labels : ℕ → Option ℕ) (n : ℕ) → AreEffects g g2 e → HaveNodesMoved g2 base block labels e.came e.gone
    → IsNode (shape_of g2) n → IsFalse (has e.targets n) → at block n ≡ at base n
moved_far g g2 e base block labels n w m live off =
    m.others n (false_from_ne_true (has e.came n) (λ h. true≢false (sym (w.target_came n h) ∙ off))) (live_stayed g g2 e n w live)
