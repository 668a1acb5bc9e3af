-- A level on which nodes that get another label are moved, one after the other.
use Rattle.std.proofs.Common.{◌≡◌, ℕ, ◌+◌, ◌*◌, ◌≤◌, List, [], ◌∷◌, ◌++◌, Some, IsTrue, refl, sym, ◌∙◌, ap, subst, arith, inl, inr, true, false, Bool, cond, true≢false}
use Rattle.std.specs.Prelude.{nat_eq, ◌&&◌, ◌||◌, not}
use Rattle.std.proofs.Math.Bool.{or-true, or-false}
use Rattle.std.proofs.Math.Nat.{mul-le-mul_left}
use Rattle.std.proofs.lemmas.Bool.Decides.{eqb_tells}
use Rattle.std.proofs.lemmas.List.Folds.{list_any-append}
use Rattle.graph_spec.specs.Graphs.{Graph, is_live}
use Rattle.graph_spec.specs.Members.{at, has}
use Rattle.graph_spec.specs.Shapes.{shape_of}
use Rattle.label_graph.specs.GraphViews.{label_number}
use Rattle.one_spec.specs.EdgeCounts.{AreEdgeCounts}
use Rattle.graph_effects.specs.Effects.{EffectLists}
use Rattle.graph_effects.proofs.EffectLaws.{has_last, put_else}
use Rattle.keyed_quotient.specs.KeyedQuotients.{KeyedQuotient}
use Rattle.keyed_quotient.specs.Changes.{KeyedChanges}
use Rattle.ak_family.specs.LevelDrafts.{blocks_shown, labels_shown, support_shown, AreSameBut}
use Rattle.level_update.specs.LevelEffects.{own_number, lone_nodes, HasOwnKey, IsLevelRelabelled, IsLevelDrafted, IsDraftedBelow, IsNodeAdded}
use Rattle.level_update.proofs.EffectLevels.{same_some, own_stays, begin_joined, own_joined}
use Rattle.level_update.proofs.MovedNodes.{partition_put}

-- ---- one more node

-- another node than the last of the list
other_has : (moved : List ℕ) (n m : ℕ) → nat_eq m n ≡ false → has (moved ++ n ∷ []) m ≡ has moved m
other_has moved n m apart = has_last moved n m ∙ ap (λ b. has moved m || b) apart ∙ or-false (has moved m)

-- the last one
last_has : (moved : List ℕ) (n m : ℕ) → nat_eq m n ≡ true → has (moved ++ n ∷ []) m ≡ true
last_has moved n m same = has_last moved n m ∙ ap (λ b. has moved m || b) same ∙ or-true (has moved m)

pub relabelled_next : (e : EffectLists) (moved : List ℕ) (g2 : Graph) (f : List KeyedQuotient) (d d2 : List KeyedChanges) (i n label number : ℕ) → IsDraftedBelow (lone_nodes e) g2 f d i
    → IsLevelRelabelled e moved g2 f d i → AreSameBut i d d2 → IsTrue (is_live g2 n) → label_number g2 n ≡ Some label → own_number f d label n i ≡ Some number
    → IsNodeAdded f i n label number d d2 → AreEdgeCounts g2 (blocks_shown f d2 i) (support_shown f d2 i) → IsLevelRelabelled e (moved ++ n ∷ []) g2 f d2 i
relabelled_next e moved g2 f d d2 i n label number under w others live is own j counts = record {
  over = j.over;
  partition = partition_put (shape_of g2) (blocks_shown f d i) (blocks_shown f d2 i) n j.block w.partition live j.blocks;
  block_labels = record {
    is = λ m b off here. elim (eqb_tells m n) [
      | inl s ↦ (
          let one : j.block ≡ b = same_some j.block b (sym (j.blocks m ∙ ap (λ t. cond t (Some j.block) (at (blocks_shown f d i) m)) s.0) ∙ here) in
          (label, ap (at (labels_shown f d2 i)) (sym one) ∙ j.label_is, ap (label_number g2) s.1 ∙ is))
      | inr o ↦ (
          let still = ap (λ b. has e.relabelled m && not b) (sym (other_has moved n m o.0)) ∙ off in
          let r = w.block_labels.is m b still (sym (stays m o.0) ∙ here) in
          (r.0, j.has_block.labels_stay b r.0 r.1, r.2))
    ];
  };
  supports = counts;
  begin = begin_joined g2 (lone_nodes e) f d d2 i n label number under others is own j w.begin;
  stay = record { kept = λ b numbers k. j.has_block.keys_stay.kept b numbers (w.stay.kept b numbers k) };
  labels = record { kept = λ b l k. j.has_block.labels_stay b l (w.labels.kept b l k) };
  own = λ m h. elim (eqb_tells m n) [
    | inl s ↦ subst (HasOwnKey f d2 i) (sym s.1) (own_joined f d d2 i n label number others own j)
    | inr o ↦ own_stays f d d2 i m others (stays m o.0) j.has_block.keys_stay.kept (w.own m (ap (λ b. has e.came m || b) (sym (other_has moved n m o.0)) ∙ h))
  ];
  far = λ m node h. elim (eqb_tells m n) [
    | inl s ↦ absurd (no_last (has e.came m) (sym (ap (λ b. has e.came m || b) (last_has moved n m s.0)) ∙ h))
    | inr o ↦ stays m o.0 ∙ w.far m node (ap (λ b. has e.came m || b) (sym (other_has moved n m o.0)) ∙ h)
  ];
}
  where
    no_last : (b : Bool) → (b || true) ≡ false → ⊥
    no_last b h = true≢false (sym (or-true b) ∙ h)

    stays : (m : ℕ) → nat_eq m n ≡ false → at (blocks_shown f d2 i) m ≡ at (blocks_shown f d i) m
    stays = put_else n (Some j.block) (blocks_shown f d i) (blocks_shown f d2 i) j.blocks

-- ---- all of them

-- a level on which all have been moved
pub relabelled_done : (e : EffectLists) (g2 : Graph) (f : List KeyedQuotient) (d : List KeyedChanges) (i : ℕ) → IsLevelRelabelled e e.relabelled g2 f d i
    → IsLevelDrafted (lone_nodes e) g2 f d i
relabelled_done e g2 f d i w = record {
  level = record { partition = w.partition; block_labels = record { is = λ n b here. w.block_labels.is n b (none (has e.relabelled n)) here }; supports = w.supports };
  begin = w.begin;
  stay = w.stay;
  labels = w.labels;
  own = λ n h. w.own n (sym (list_any-append (nat_eq n) e.came e.relabelled) ∙ h);
  far = λ n node h. w.far n node (sym (list_any-append (nat_eq n) e.came e.relabelled) ∙ h);
}
  where
    none : (b : Bool) → (b && not b) ≡ false
    none true = refl
    none false = refl

-- ---- what it costs

-- at the levels so far, and at all
pub so_many : (i len each old now : ℕ) → i ≤ len → now ≤ old + i * each → now ≤ old + len * each
so_many i len each old now within cost = (let all = times i len each within in omega (arith, cost, all))
  where
    times : (a b c : ℕ) → a ≤ b → a * c ≤ b * c
    times a b c h = (let k = mul-le-mul_left c h in omega (arith, k))

-- at all levels, and then to move what is affected
pub draft_most : (len k each part old mid now : ℕ) → len ≡ k + 1 → each ≤ 3 * part → mid ≤ old + len * each → now ≤ mid + (3 * k + 1) * part → now ≤ old + (6 * k + 4) * part
draft_most len k each part old mid now count few first rest =
    let all = mul-le-mul_left len few in
    let same : len * (3 * part) ≡ (k + 1) * (3 * part) = ap (λ n. n * (3 * part)) count in
    omega (arith, first, rest, all, same)
