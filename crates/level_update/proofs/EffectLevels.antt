-- A level on the way to the graph that a change leaves.
use Rattle.std.proofs.Common.{◌≡◌, ℕ, zero, suc, ◌+◌, ◌<◌, ◌≤◌, ◌^◌, List, [], ◌∷◌, ◌++◌, length, Option, Some, None, IsSome, IsTrue, is_some, refl, sym, ◌∙◌, ap, subst, arith, inl, inr, true, false, Bool, cond, take, true≢false}
use Rattle.std.specs.Prelude.{nat_eq, ◌&&◌, ◌||◌, not}
use Rattle.std.specs.FinSet as set
use Rattle.std.proofs.lemmas.Bool.{false_from_ne_true, both_ways, cases_lt}
use Rattle.std.proofs.lemmas.Bool.Decides.{eqb_tells, Decides-eqb}
use Rattle.graph_spec.specs.Graphs.{Graph, IsGraph, is_live}
use Rattle.graph_spec.specs.Members.{at, has}
use Rattle.graph_spec.specs.Shapes.{shape_of}
use Rattle.bisim_spec.specs.declared.sides.Sides.{Sides}
use Rattle.bisim_spec.specs.SidedLevels.{spread, affected}
use Rattle.bisim_spec.proofs.Reached.{within_more}
use Rattle.level_update.specs.MovedLevels.{HasMovedAffected}
use Rattle.std.proofs.Math.Bool.{or-false}
use Rattle.label_graph.specs.GraphViews.{label_number}
use Rattle.bisim_spec.proofs.Bisimilar.{some_of}
use Rattle.bisim_spec.specs.IndexGraphs.{support_at}
use Rattle.one_spec.specs.EdgeCounts.{AreEdgeCounts}
use Rattle.graph_effects.specs.Effects.{EffectLists, AreEffects, without_edges, with_edges}
use Rattle.graph_effects.specs.EffectBlocks.{HaveNodesMoved}
use Rattle.graph_effects.proofs.EdgeLists.{pair_at, counts_lowered, counts_raised, lowered_some, counts_agree, counts_few}
use Rattle.graph_effects.proofs.EffectLaws.{gone_parts, live_was, lost_edges, added_absent, off_edges, off_left, counts_after, put_else, moved_none, moved_came, moved_gone, moved_labels, moved_partition, moved_named, has_last, live_stayed}
use Rattle.graph_effects.proofs.ListedEffects.{within_after}
use Rattle.keyed_quotient.specs.KeyedQuotients.{KeyedQuotient, key_at}
use Rattle.keyed_quotient.specs.Changes.{KeyedChanges, no_keyed_changes, blocks_as_shown, labels_as_shown, support_as_shown, shown_key}
use Rattle.level_spec.specs.Keyed.{KeysStay, AreLabelled, IsLevelOf, LabelsGoUp, first_number}
use Rattle.ak_family.specs.Families.{level_at, blocks_at}
use Rattle.ak_family.specs.LevelDrafts.{changes_at, blocks_shown, labels_shown, support_shown, key_shown, AreOver, AreSameBut, KeepsAllButSupports, KeepsLabelsAndKeys}
use Rattle.level_update.specs.Placed.{LabelsKept}
use Rattle.level_update.specs.LevelEffects.{AreBases, KeyHasLabel, own_number, HasOwnKey, KeysBegin, IsLevelOnWay, IsLevelRelabelled, IsLevelDrafted, IsDraftedBelow, AreLevelsDrafted, IsNodeAdded, IsNodeLeft, IsEdgeLowered, IsEdgeRaised}
use Rattle.level_update.proofs.Bases.{next_is}
use Rattle.level_update.proofs.Unchanged.{none_blocks, none_labels, none_support, none_key}

pub same_some : {X : Type 0} (x y : X) → Some x ≡ Some y → x ≡ y
same_some x y e = cc

-- ---- labels and keys that stay

begin_kept : (f : List KeyedQuotient) (d d2 : List KeyedChanges) (i : ℕ) → KeepsLabelsAndKeys f i d d2 → KeysBegin f d i → KeysBegin f d2 i
begin_kept f d d2 zero k w = record { is = λ b l e. k.keys b ∙ w.is b l (sym (ap (λ (ls : List (Option ℕ)). at ls b) k.labels) ∙ e) }
begin_kept f d d2 (suc i) k w = record {
  is = λ b number first.
      let r = w.is b number (sym (ap first_number (k.keys b)) ∙ first) in (
        r.0,
        ap (λ (c : KeyedChanges). at (labels_as_shown (level_at f i) c) number) (k.others i (λ e. absurd (omega (arith, e)))) ∙ r.1,
        ap (λ (ls : List (Option ℕ)). at ls b) k.labels ∙ r.2,
      );
}

-- a node whose block and its key have stayed
pub own_stays : (f : List KeyedQuotient) (d d2 : List KeyedChanges) (i n : ℕ) → AreSameBut i d d2 → at (blocks_shown f d2 i) n ≡ at (blocks_shown f d i) n
    → ((b : ℕ) (numbers : List ℕ) → key_shown f d i b ≡ Some numbers → key_shown f d2 i b ≡ Some numbers) → HasOwnKey f d i n → HasOwnKey f d2 i n
own_stays f d d2 zero n others same keys w = tt
own_stays f d d2 (suc i) n others same keys w = (
  w.0,
  w.1,
  ap (λ (c : KeyedChanges). at (blocks_as_shown (level_at f i) c) n) (others i (λ e. absurd (omega (arith, e)))) ∙ w.2,
  same ∙ w.3,
  keys w.1 (w.0 ∷ []) w.4,
)

-- labels and keys have stayed
way_kept : (g2 h h2 : Graph) (came gone gone2 : List ℕ) (f : List KeyedQuotient) (d d2 : List KeyedChanges) (i : ℕ) → IsLevelOnWay g2 h came gone f d i → KeepsLabelsAndKeys f i d d2
    → AreOver f d2 → HaveNodesMoved g2 (blocks_at f i) (blocks_shown f d2 i) (at (labels_shown f d i)) came gone2
    → ((n : ℕ) → IsTrue (has came n) → at (blocks_shown f d2 i) n ≡ at (blocks_shown f d i) n) → AreEdgeCounts h2 (blocks_shown f d2 i) (support_shown f d2 i)
    → IsLevelOnWay g2 h2 came gone2 f d2 i
way_kept g2 h h2 came gone gone2 f d d2 i w k over nodes same supports = record {
  over = over;
  begin = begin_kept f d d2 i k w.begin;
  stay = record { kept = λ b numbers e. k.keys b ∙ w.stay.kept b numbers e };
  labels = record { kept = λ b l e. ap (λ (ls : List (Option ℕ)). at ls b) k.labels ∙ w.labels.kept b l e };
  nodes = moved_labels g2 (blocks_at f i) (blocks_shown f d2 i) (blocks_shown f d2 i) (at (labels_shown f d i)) (at (labels_shown f d2 i)) came gone2 nodes (λ m. refl)
      (λ c. ap (λ (ls : List (Option ℕ)). at ls c) k.labels);
  own = λ n h. own_stays f d d2 i n k.others (same n h) (λ b numbers e. k.keys b ∙ e) (w.own n h);
  supports = supports;
}

-- ---- the start

begin_first : (g g2 : Graph) (came : List ℕ) (f : List KeyedQuotient) (d : List KeyedChanges) (i : ℕ) → AreBases g f → i < length f → changes_at d i ≡ no_keyed_changes
    → IsDraftedBelow came g2 f d i → KeysBegin f d i
begin_first g g2 came f d zero base h none below = record {
  is = λ b l e. none_key (level_at f 0) (changes_at d 0) none b ∙ base.lowest.is b l (sym (ap (λ (ls : List (Option ℕ)). at ls b) (none_labels (level_at f 0) (changes_at d 0) none)) ∙ e);
}
begin_first g g2 came f d (suc i) base h none below =
    let up = subst (λ j. LabelsGoUp (level_at f i).quotient.blocks.labels (level_at f j).quotient.blocks.labels (key_at (level_at f j).keys)) (next_is i) (base.up i (omega (arith, h))) in
    let q = level_at f (suc i) in
    record {
      is = λ b number first.
          let r = up.is b number (sym (ap first_number (none_key q (changes_at d (suc i)) none b)) ∙ first) in
          (r.0, below.labels.kept number r.0 r.1, ap (λ (ls : List (Option ℕ)). at ls b) (none_labels q (changes_at d (suc i)) none) ∙ r.2);
    }

pub way_start : (g g2 : Graph) (came : List ℕ) (f : List KeyedQuotient) (d : List KeyedChanges) (i : ℕ) → AreBases g f → i < length f → AreOver f d
    → changes_at d i ≡ no_keyed_changes → IsDraftedBelow came g2 f d i → IsLevelOnWay g2 g [] [] f d i
way_start g g2 came f d i base h over none below =
    let q = level_at f i in
    let c = changes_at d i in
    let there : (n : ℕ) → at (blocks_shown f d i) n ≡ at (blocks_at f i) n = λ n. ap (λ (p : List (Option ℕ)). at p n) (none_blocks q c none) in
    record {
      over = over;
      begin = begin_first g g2 came f d i base h none below;
      stay = record { kept = λ b numbers e. none_key q c none b ∙ e };
      labels = record { kept = λ b l e. ap (λ (ls : List (Option ℕ)). at ls b) (none_labels q c none) ∙ e };
      nodes = moved_none g2 (blocks_at f i) (blocks_shown f d i) (at (labels_shown f d i)) there;
      own = λ n h. absurd (true≢false (sym h));
      supports = counts_agree g (blocks_at f i) (blocks_shown f d i) (support_at q.quotient.supports) (support_shown f d i) (base.levels i h).supports (λ u v on. (there u, there v))
          (none_support q c none);
    }

-- ---- nodes that come

-- the node's block below, with which the key begins, has the label of the node
below_label : (g2 : Graph) (came : List ℕ) (f : List KeyedQuotient) (d : List KeyedChanges) (i n label number : ℕ) → IsLevelDrafted came g2 f d i → label_number g2 n ≡ Some label
    → at (blocks_shown f d i) n ≡ Some number → at (labels_shown f d i) number ≡ Some label
below_label g2 came f d i n label number below is own =
    let r = below.level.block_labels.is n number own in
    r.1 ∙ sym r.2 ∙ is

pub own_some : (g2 : Graph) (came : List ℕ) (f : List KeyedQuotient) (d : List KeyedChanges) (i n label : ℕ) → IsDraftedBelow came g2 f d i → IsTrue (is_live g2 n)
    → IsSome (own_number f d label n i)
own_some g2 came f d zero n label below live = refl
own_some g2 came f d (suc i) n label below live = below.level.partition.live n live

-- a block whose key is the number alone has the label
pub own_labelled : (g2 : Graph) (came : List ℕ) (f : List KeyedQuotient) (d : List KeyedChanges) (i n label number : ℕ) → IsDraftedBelow came g2 f d i → AreOver f d → i < length f
    → KeysBegin f d i → label_number g2 n ≡ Some label → own_number f d label n i ≡ Some number → KeyHasLabel (key_shown f d i) (labels_shown f d i) (number ∷ []) label
own_labelled g2 came f d zero n label number below over h begin is own b e =
    let l = some_of (at (labels_shown f d 0) b) (sym ((over.each 0 h).keyed.exactly b) ∙ ap is_some e) in
    let same : Some number ≡ Some l.0 = ap first_number (sym e ∙ begin.is b l.0 l.1) in
    l.1 ∙ sym same ∙ sym own
own_labelled g2 came f d (suc i) n label number below over h begin is own b e =
    let r = begin.is b number (ap first_number e) in
    r.2 ∙ sym r.1 ∙ below_label g2 came f d i n label number below is own

pub begin_joined : (g2 : Graph) (came : List ℕ) (f : List KeyedQuotient) (d d2 : List KeyedChanges) (i n label number : ℕ) → IsDraftedBelow came g2 f d i → AreSameBut i d d2
    → label_number g2 n ≡ Some label → own_number f d label n i ≡ Some number → IsNodeAdded f i n label number d d2 → KeysBegin f d i → KeysBegin f d2 i
begin_joined g2 came f d d2 zero n label number below others is own j begin = record {
  is = λ b l e. elim (eqb_tells b j.block) [
    | inl s ↦ (
        let same : label ≡ l = same_some label l (sym j.label_is ∙ ap (at (labels_shown f d2 0)) (sym s.1) ∙ e) in
        let one : label ≡ number = same_some label number own in
        ap (key_shown f d2 0) s.1 ∙ j.has_block.key_is ∙ ap (λ x. Some (x ∷ [])) (sym one ∙ same))
    | inr o ↦ j.has_block.other_keys b o.1 ∙ begin.is b l (sym (j.has_block.other_labels b o.1) ∙ e)
  ];
}
begin_joined g2 came f d d2 (suc i) n label number below others is own j begin = record {
  is = λ b first_is first. elim (eqb_tells b j.block) [
    | inl s ↦ (
        let one : number ≡ first_is = same_some number first_is (sym (ap first_number (ap (key_shown f d2 (suc i)) s.1 ∙ j.has_block.key_is)) ∙ first) in
        (label, still first_is ∙ ap (at (labels_shown f d i)) (sym one) ∙ below_label g2 came f d i n label number below is own, ap (at (labels_shown f d2 (suc i))) s.1 ∙ j.label_is))
    | inr o ↦ (
        let r = begin.is b first_is (sym (ap first_number (j.has_block.other_keys b o.1)) ∙ first) in
        (r.0, still first_is ∙ r.1, j.has_block.labels_stay b r.0 r.2))
  ];
}
  where
    still : (b : ℕ) → at (labels_shown f d2 i) b ≡ at (labels_shown f d i) b
    still b = ap (λ (c : KeyedChanges). at (labels_as_shown (level_at f i) c) b) (others i (λ e. absurd (omega (arith, e))))

-- the node that has come is in the block of its own number
pub own_joined : (f : List KeyedQuotient) (d d2 : List KeyedChanges) (i n label number : ℕ) → AreSameBut i d d2 → own_number f d label n i ≡ Some number → IsNodeAdded f i n label number d d2
    → HasOwnKey f d2 i n
own_joined f d d2 zero n label number others own j = tt
own_joined f d d2 (suc i) n label number others own j = (
  number,
  j.block,
  ap (λ (c : KeyedChanges). at (blocks_as_shown (level_at f i) c) n) (others i (λ e. absurd (omega (arith, e)))) ∙ own,
  j.blocks n ∙ ap (λ t. cond t (Some j.block) (at (blocks_shown f d (suc i)) n)) ((Decides-eqb n n).1 refl),
  j.has_block.key_is,
)

pub way_joined : (g g2 : Graph) (all came : List ℕ) (f : List KeyedQuotient) (d d2 : List KeyedChanges) (i n label number : ℕ) → IsGraph g → is_live g n ≡ false
    → IsDraftedBelow all g2 f d i → IsLevelOnWay g2 g came [] f d i → AreSameBut i d d2 → label_number g2 n ≡ Some label → own_number f d label n i ≡ Some number
    → IsNodeAdded f i n label number d d2 → ((x y : ℕ) → support_shown f d2 i x y ≡ support_shown f d i x y) → IsLevelOnWay g2 g (came ++ n ∷ []) [] f d2 i
way_joined g g2 all came f d d2 i n label number graph dead below w others is own j counts = record {
  over = j.over;
  begin = begin_joined g2 all f d d2 i n label number below others is own j w.begin;
  stay = record { kept = λ b numbers e. j.has_block.keys_stay.kept b numbers (w.stay.kept b numbers e) };
  labels = record { kept = λ b l e. j.has_block.labels_stay b l (w.labels.kept b l e) };
  nodes = moved_came g2 (blocks_at f i) (blocks_shown f d i) (blocks_shown f d2 i) (at (labels_shown f d i)) (at (labels_shown f d2 i)) came n j.block label w.nodes j.blocks j.has_block.labels_stay
      j.label_is is;
  own = λ m h. elim (eqb_tells m n) [
    | inl s ↦ subst (HasOwnKey f d2 i) (sym s.1) (own_joined f d d2 i n label number others own j)
    | inr o ↦ own_stays f d d2 i m others (put_else n (Some j.block) (blocks_shown f d i) (blocks_shown f d2 i) j.blocks m o.0) j.has_block.keys_stay.kept
        (w.own m (sym (or-false (has came m)) ∙ sym (ap (λ b. has came m || b) o.0) ∙ sym (has_last came n m) ∙ h))
  ];
  supports = counts_agree g (blocks_shown f d i) (blocks_shown f d2 i) (support_shown f d i) (support_shown f d2 i) w.supports (λ u v on.
      let off = off_edges g n u v graph dead on in
      (put_else n (Some j.block) (blocks_shown f d i) (blocks_shown f d2 i) j.blocks u off.0, put_else n (Some j.block) (blocks_shown f d i) (blocks_shown f d2 i) j.blocks v off.1)) counts;
}

-- ---- nodes that go

pub way_left : (g g2 : Graph) (e : EffectLists) (gone : List ℕ) (f : List KeyedQuotient) (d d2 : List KeyedChanges) (i n : ℕ) → AreEffects g g2 e → IsGraph g2 → IsTrue (has e.gone n)
    → IsLevelOnWay g2 (without_edges g e.lost) e.came gone f d i → AreSameBut i d d2 → IsNodeLeft f i n d d2
    → IsLevelOnWay g2 (without_edges g e.lost) e.came (gone ++ n ∷ []) f d2 i
way_left g g2 e gone f d d2 i n w graph on way others l =
    let parts = gone_parts g g2 e n w on in
    way_kept g2 (without_edges g e.lost) (without_edges g e.lost) e.came gone (gone ++ n ∷ []) f d d2 i way (record { labels = l.labels; keys = l.keys; others = others }) l.over
    (moved_gone g2 (blocks_at f i) (blocks_shown f d i) (blocks_shown f d2 i) (at (labels_shown f d i)) e.came gone n way.nodes l.blocks (live_was g g2 e n w parts.0))
    (λ m h. put_else n None (blocks_shown f d i) (blocks_shown f d2 i) l.blocks m (false_from_ne_true (nat_eq m n) (λ s. true≢false (sym h ∙ ap (has e.came) ((Decides-eqb m n).0 s) ∙ live_was g g2 e n w parts.0))))
    (counts_agree (without_edges g e.lost) (blocks_shown f d i) (blocks_shown f d2 i) (support_shown f d i) (support_shown f d2 i) way.supports (λ u v there.
    let off = off_left g g2 e n u v w graph parts.1 there in
    (put_else n None (blocks_shown f d i) (blocks_shown f d2 i) l.blocks u off.0, put_else n None (blocks_shown f d i) (blocks_shown f d2 i) l.blocks v off.1)) l.supports)

-- ---- edges

kept_keys : (f : List KeyedQuotient) (d d2 : List KeyedChanges) (i : ℕ) → KeepsAllButSupports f i d d2 → KeepsLabelsAndKeys f i d d2
kept_keys f d d2 i k = record { labels = k.labels; keys = k.keys; others = k.others }

way_counted : (g2 h h2 : Graph) (came gone : List ℕ) (f : List KeyedQuotient) (d d2 : List KeyedChanges) (i : ℕ) → IsLevelOnWay g2 h came gone f d i → KeepsAllButSupports f i d d2
    → AreEdgeCounts h2 (blocks_shown f d i) (support_shown f d2 i) → IsLevelOnWay g2 h2 came gone f d2 i
way_counted g2 h h2 came gone f d d2 i w k counts =
    way_kept g2 h h2 came gone gone f d d2 i w (kept_keys f d d2 i k) k.over
    (moved_labels g2 (blocks_at f i) (blocks_shown f d i) (blocks_shown f d2 i) (at (labels_shown f d i)) (at (labels_shown f d i)) came gone w.nodes (λ m. ap (λ (p : List (Option ℕ)). at p m) k.blocks)
    (λ c. refl)) (λ n h. ap (λ (p : List (Option ℕ)). at p n) k.blocks)
    (subst (λ (p : List (Option ℕ)). AreEdgeCounts h2 p (support_shown f d2 i)) (sym k.blocks) counts)

pub way_lowered : (g g2 : Graph) (e : EffectLists) (f : List KeyedQuotient) (d d2 : List KeyedChanges) (i j : ℕ) → AreEffects g g2 e → j < length e.lost
    → IsLevelOnWay g2 (without_edges g (take j e.lost)) e.came [] f d i → IsEdgeLowered f i (pair_at e.lost j).0 (pair_at e.lost j).1 d d2
    → IsLevelOnWay g2 (without_edges g (take (j + 1) e.lost)) e.came [] f d2 i
way_lowered g g2 e f d d2 i j w h way l =
    way_counted g2 (without_edges g (take j e.lost)) (without_edges g (take (j + 1) e.lost)) e.came [] f d d2 i way l.kept
    (counts_lowered g e.lost j l.first l.second (blocks_shown f d i) (support_shown f d i) (support_shown f d2 i) w.lost.once (lost_edges g g2 e w) h way.supports
    (record { from = l.from; onto = l.onto }) l.lowered)

pub way_raised : (g g2 : Graph) (e : EffectLists) (f : List KeyedQuotient) (d d2 : List KeyedChanges) (i j : ℕ) → AreEffects g g2 e → j < length e.added
    → IsLevelOnWay g2 (with_edges (without_edges g e.lost) (take j e.added)) e.came e.gone f d i → IsEdgeRaised f i (pair_at e.added j).0 (pair_at e.added j).1 d d2
    → IsLevelOnWay g2 (with_edges (without_edges g e.lost) (take (j + 1) e.added)) e.came e.gone f d2 i
way_raised g g2 e f d d2 i j w h way l =
    way_counted g2 (with_edges (without_edges g e.lost) (take j e.added)) (with_edges (without_edges g e.lost) (take (j + 1) e.added)) e.came e.gone f d d2 i way l.kept
    (counts_raised (without_edges g e.lost) e.added j l.first l.second (blocks_shown f d i) (support_shown f d i) (support_shown f d2 i) w.added.once (added_absent g g2 e w) h way.supports
    (record { from = l.from; onto = l.onto }) l.raised)

-- ---- the ends of edges that come and go

-- a node of the first graph has its block still, while no node has gone
pub old_some : (g g2 h : Graph) (e : EffectLists) (f : List KeyedQuotient) (d : List KeyedChanges) (i n : ℕ) → AreEffects g g2 e → AreBases g f → i < length f → IsTrue (is_live g n)
    → IsLevelOnWay g2 h e.came [] f d i → IsSome (at (blocks_shown f d i) n)
old_some g g2 h e f d i n w base l live way = ap is_some (way.nodes.others n (live_was g g2 e n w live) refl) ∙ (base.levels i l).partition.live n live

pub lost_some : (g g2 : Graph) (e : EffectLists) (f : List KeyedQuotient) (d : List KeyedChanges) (i j : ℕ) → AreEffects g g2 e → j < length e.lost
    → IsLevelOnWay g2 (without_edges g (take j e.lost)) e.came [] f d i → (x y : ℕ) → at (blocks_shown f d i) (pair_at e.lost j).0 ≡ Some x
    → at (blocks_shown f d i) (pair_at e.lost j).1 ≡ Some y → 0 < support_shown f d i x y
lost_some g g2 e f d i j w h way x y from onto =
    lowered_some g e.lost j x y (blocks_shown f d i) (support_shown f d i) w.lost.once (lost_edges g g2 e w) h way.supports (record { from = from; onto = onto })

-- a node of the second graph has a block, once nodes have come and gone
pub new_some : (g g2 h : Graph) (e : EffectLists) (f : List KeyedQuotient) (d : List KeyedChanges) (i n : ℕ) → AreEffects g g2 e → AreBases g f → i < length f → IsTrue (is_live g2 n)
    → IsLevelOnWay g2 h e.came e.gone f d i → IsSome (at (blocks_shown f d i) n)
new_some g g2 h e f d i n w base l live way =
    (moved_partition g g2 e (blocks_at f i) (blocks_shown f d i) (at (labels_shown f d i)) w (base.levels i l).partition way.nodes).live n live

pub added_few : (g g2 : Graph) (e : EffectLists) (f : List KeyedQuotient) (d : List KeyedChanges) (i j : ℕ) → AreEffects g g2 e → set.len g2.edges ≤ 2 ^ 30
    → IsLevelOnWay g2 (with_edges (without_edges g e.lost) (take j e.added)) e.came e.gone f d i → (x y : ℕ) → support_shown f d i x y < 2 ^ 31
added_few g g2 e f d i j w few way x y =
    counts_few (with_edges (without_edges g e.lost) (take j e.added)) g2 (blocks_shown f d i) (support_shown f d i) x y way.supports (λ u v h. within_after g g2 e j u v w h) few

-- ---- the end

none_moved : (a : Bool) → (a && not false) ≡ false → a ≡ false
none_moved true h = h
none_moved false h = refl

-- a level on which nodes and edges have come and gone
pub way_done : (g g2 : Graph) (e : EffectLists) (f : List KeyedQuotient) (d : List KeyedChanges) (i : ℕ) → AreEffects g g2 e → IsGraph g2 → AreBases g f → i < length f
    → IsLevelOnWay g2 (with_edges (without_edges g e.lost) e.added) e.came e.gone f d i → IsLevelRelabelled e [] g2 f d i
way_done g g2 e f d i w graph base h way =
    let b = base.levels i h in
    record {
      over = way.over;
      partition = moved_partition g g2 e (blocks_at f i) (blocks_shown f d i) (at (labels_shown f d i)) w b.partition way.nodes;
      block_labels = record {
        is = λ n c off here.
            (moved_named g g2 e (blocks_at f i) (blocks_shown f d i) (at (level_at f i).quotient.blocks.labels) (at (labels_shown f d i)) w graph b.partition b.block_labels way.labels.kept way.nodes).is n c
            (none_moved (has e.relabelled n) off) here;
      };
      supports = counts_after g g2 e (blocks_shown f d i) (support_shown f d i) w way.supports;
      begin = way.begin;
      stay = way.stay;
      labels = way.labels;
      own = λ n on. way.own n (sym (or-false (has e.came n)) ∙ on);
      far = λ n live off. way.nodes.others n (sym (or-false (has e.came n)) ∙ off) (live_stayed g g2 e n w live);
    }

-- ---- level by level

begin_same : (f : List KeyedQuotient) (d d2 : List KeyedChanges) (i j : ℕ) → AreSameBut i d d2 → j < i → KeysBegin f d j → KeysBegin f d2 j
begin_same f d d2 i zero others h w =
    subst (λ (c : KeyedChanges). AreLabelled (labels_as_shown (level_at f 0) c) (shown_key (level_at f 0) c)) (sym (others 0 (λ e. absurd (omega (arith, h, e))))) w
begin_same f d d2 i (suc j) others h w =
    subst (λ (c : KeyedChanges). LabelsGoUp (labels_as_shown (level_at f j) c) (labels_shown f d2 (suc j)) (key_shown f d2 (suc j))) (sym (others j (λ e. absurd (omega (arith, h, e)))))
    (subst (λ (c : KeyedChanges). LabelsGoUp (labels_shown f d j) (labels_as_shown (level_at f (suc j)) c) (shown_key (level_at f (suc j)) c)) (sym (others (suc j) (λ e. absurd (omega (arith, h, e))))) w)

own_same : (f : List KeyedQuotient) (d d2 : List KeyedChanges) (i j n : ℕ) → AreSameBut i d d2 → j < i → HasOwnKey f d j n → HasOwnKey f d2 j n
own_same f d d2 i zero n others h w = tt
own_same f d d2 i (suc j) n others h w = (
  w.0,
  w.1,
  ap (λ (c : KeyedChanges). at (blocks_as_shown (level_at f j) c) n) (others j (λ e. absurd (omega (arith, h, e)))) ∙ w.2,
  ap (λ (c : KeyedChanges). at (blocks_as_shown (level_at f (suc j)) c) n) (others (suc j) (λ e. absurd (omega (arith, h, e)))) ∙ w.3,
  ap (λ (c : KeyedChanges). shown_key (level_at f (suc j)) c w.1) (others (suc j) (λ e. absurd (omega (arith, h, e)))) ∙ w.4,
)

-- a lower level isn't touched
drafted_same : (came : List ℕ) (g2 : Graph) (f : List KeyedQuotient) (d d2 : List KeyedChanges) (i j : ℕ) → AreSameBut i d d2 → j < i → IsLevelDrafted came g2 f d j
    → IsLevelDrafted came g2 f d2 j
drafted_same came g2 f d d2 i j others h w =
    let same = sym (others j (λ e. absurd (omega (arith, h, e)))) in
    let q = level_at f j in
    record {
      level = subst (λ (c : KeyedChanges). IsLevelOf g2 (blocks_as_shown q c) (labels_as_shown q c) (support_as_shown q c)) same w.level;
      begin = begin_same f d d2 i j others h w.begin;
      stay = subst (λ (c : KeyedChanges). KeysStay (key_at q.keys) (shown_key q c)) same w.stay;
      labels = subst (λ (c : KeyedChanges). LabelsKept q.quotient.blocks.labels (labels_as_shown q c)) same w.labels;
      own = λ n on. own_same f d d2 i j n others h (w.own n on);
      far = λ n live off. ap (λ (c : KeyedChanges). at (blocks_as_shown q c) n) (sym same) ∙ w.far n live off;
    }

-- the levels below i are drafted, and nothing is drafted at the others
pub record AreDraftedTo (came : List ℕ) (g2 : Graph) (f : List KeyedQuotient) (d : List KeyedChanges) (i : ℕ) : Type 0 where
  pub over : AreOver f d
  pub done : (j : ℕ) → j < i → IsLevelDrafted came g2 f d j
  pub rest : (j : ℕ) → i ≤ j → changes_at d j ≡ no_keyed_changes

pub below_drafted : (came : List ℕ) (g2 : Graph) (f : List KeyedQuotient) (d : List KeyedChanges) (i : ℕ) → AreDraftedTo came g2 f d i → IsDraftedBelow came g2 f d i
below_drafted came g2 f d zero w = tt
below_drafted came g2 f d (suc i) w = w.done i (omega arith)

pub drafted_next : (came : List ℕ) (g2 : Graph) (f : List KeyedQuotient) (d d2 : List KeyedChanges) (i : ℕ) → AreDraftedTo came g2 f d i → AreSameBut i d d2 → AreOver f d2
    → IsLevelDrafted came g2 f d2 i → AreDraftedTo came g2 f d2 (i + 1)
drafted_next came g2 f d d2 i w others over one = record {
  over = over;
  done = λ j h. elim (cases_lt j i) [
    | inl below ↦ drafted_same came g2 f d d2 i j others below (w.done j below)
    | inr past ↦ (let e : i ≡ j = omega (arith, h, past) in subst (IsLevelDrafted came g2 f d2) e one)
  ];
  rest = λ j h. others j (λ e. absurd (omega (arith, h, e))) ∙ w.rest j (omega (arith, h));
}

pub drafted_all : (came : List ℕ) (g2 : Graph) (f : List KeyedQuotient) (d : List KeyedChanges) (i : ℕ) → AreDraftedTo came g2 f d i → length f ≤ i → AreLevelsDrafted came g2 f d
drafted_all came g2 f d i w all = record { over = w.over; each = λ j h. w.done j (omega (arith, h, all)) }

-- the level below isn't touched
pub below_same : (came : List ℕ) (g2 : Graph) (f : List KeyedQuotient) (d d2 : List KeyedChanges) (i : ℕ) → AreSameBut i d d2 → IsDraftedBelow came g2 f d i → IsDraftedBelow came g2 f d2 i
below_same came g2 f d d2 zero others w = tt
below_same came g2 f d d2 (suc i) others w = drafted_same came g2 f d d2 (suc i) i others (omega arith) w

pub same_next : (i : ℕ) (d d1 d2 : List KeyedChanges) → AreSameBut i d d1 → AreSameBut i d1 d2 → AreSameBut i d d2
same_next i d d1 d2 p q = λ j ne. q j ne ∙ p j ne

-- ---- all levels

-- Once the effects are drafted at each level, the affected nodes can move.
pub levels_moving : (sides : Sides) (came : List ℕ) (ends : ℕ → Bool) (g2 : Graph) (f : List KeyedQuotient) (d : List KeyedChanges) → ((n : ℕ) → IsTrue (has came n) → ends n ≡ true)
    → 0 < length f → AreLevelsDrafted came g2 f d → HasMovedAffected sides ends g2 f d
levels_moving sides came ends g2 f d among some w = record {
  over = w.over;
  levels = λ i h. (w.each i h).level;
  lowest = (w.each 0 some).begin;
  up = λ i h. subst (λ j. LabelsGoUp (labels_shown f d i) (labels_shown f d j) (key_shown f d j)) (sym (next_is i)) (subst (IsLevelDrafted came g2 f d) (next_is i) (w.each (i + 1) h)).begin;
  stay = λ i h. (w.each i h).stay;
  far = λ i h. record {
    same = λ n live off. (w.each i h).far n live (false_from_ne_true (has came n) (λ t.
        both_ways (affected sides (shape_of g2) ends i n) off (within_more (spread sides (shape_of g2)) ends 0 i n (omega arith) (among n t))));
  };
}
