-- Levels where no node gets another label: at level i + 1 only nodes within i edges of the ends move.
use Rattle.std.proofs.Common.{◌≡◌, ℕ, zero, suc, ◌+◌, ◌<◌, ◌≤◌, List, ◌++◌, length, Option, Bool, IsTrue, IsFalse, sym, ◌∙◌, ap, subst, arith, inl, inr, true}
use Rattle.std.specs.Prelude.{nat_eq}
use Rattle.std.proofs.lemmas.Bool.{cases_Bool, false_from_ne_true, both_ways}
use Rattle.std.proofs.lemmas.Bool.Decides.{eqb_tells}
use Rattle.std.proofs.lemmas.List.{append-nil}
use Rattle.graph_spec.specs.Graphs.{Graph}
use Rattle.graph_spec.specs.Members.{at, has}
use Rattle.graph_spec.specs.Shapes.{Shape, IsNode, IsShape, shape_of}
use Rattle.graph_spec.proofs.GraphLaws.{is_shape}
use Rattle.bisim_spec.specs.declared.sides.Side.{Side}
use Rattle.bisim_spec.specs.declared.sides.Sides.{Sides}
use Rattle.bisim_spec.specs.SidedLevels.{counts, beside, affected, DiffersBy}
use Rattle.bisim_spec.proofs.Affected.{unaffected_lower, no_end, unaffected_beside}
use Rattle.bisim_spec.proofs.Bisimilar.{is_some_at}
use Rattle.bisim_spec.proofs.LevelSides.{beside_node}
use Rattle.bisim_levels.specs.SidedKeys.{IsSidedKey}
use Rattle.graph_effects.specs.Effects.{EffectLists, AreEffects}
use Rattle.graph_effects.specs.StepEffects.{ends_of}
use Rattle.graph_effects.proofs.EffectEnds.{ends_differ}
use Rattle.graph_effects.proofs.EffectLaws.{live_was}
use Rattle.keyed_quotient.specs.KeyedQuotients.{KeyedQuotient}
use Rattle.keyed_quotient.specs.Changes.{KeyedChanges, blocks_as_shown}
use Rattle.level_spec.specs.Keyed.{IsKeyed, SameFar}
use Rattle.ak_family.specs.Families.{level_at, blocks_at}
use Rattle.ak_family.specs.LevelDrafts.{blocks_shown, key_shown}
use Rattle.level_update.specs.MovedLevels.{HasMovedAffected, HasMovedNear, AreKeyedAffected}
use Rattle.level_update.specs.LevelEffects.{AreLevelsBefore, AreKeyedBases, AreLevelsDrafted, lone_nodes}
use Rattle.level_update.specs.Placed.{ArePlaced}
use Rattle.level_update.proofs.Bases.{next_is}
use Rattle.level_update.proofs.DraftLevels.{AreKeyedTo}
use Rattle.level_update.proofs.EffectTargets.{lone_ends, none_of}

-- ---- before nodes move

pub ends_apart : (which : Sides) (g g2 : Graph) (e : EffectLists) (ends : List ℕ) → AreEffects g g2 e → ends ≡ ends_of which g2 e
    → DiffersBy which (has ends) (shape_of g) (shape_of g2)
ends_apart which g g2 e ends w is = subst (λ (xs : List ℕ). DiffersBy which (has xs) (shape_of g) (shape_of g2)) (sym is) (ends_differ which g g2 e w)

-- Once the effects are drafted, only nodes that come have moved, which are ends and were not there.
pub levels_near : (which : Sides) (g g2 : Graph) (e : EffectLists) (ends : List ℕ) (f : List KeyedQuotient) (d : List KeyedChanges) → AreEffects g g2 e → ends ≡ ends_of which g2 e
    → AreLevelsBefore g g2 f → nat_eq (length e.relabelled) 0 ≡ true → AreLevelsDrafted (lone_nodes e) g2 f d → HasMovedNear which (has ends) g g2 f d
levels_near which g g2 e ends f d w is before still drafted = record {
  lowest = λ n was live. (drafted.each 0 before.some).far n live (ap (λ (xs : List ℕ). has xs n) only_came ∙ live_was g g2 e n w was);
  far = λ i h. record {
    same = λ n live off. (drafted.each (i + 1) h).far n live (false_from_ne_true (has (lone_nodes e) n) (λ t.
        both_ways (has ends n) (no_end which (shape_of g2) (is_shape g2 before.graph_after) (has ends) i n off) (lone_ends which g g2 e ends n w is t)));
  };
}
  where
    only_came : lone_nodes e ≡ e.came
    only_came = ap (λ (xs : List ℕ). e.came ++ xs) (none_of e.relabelled still) ∙ append-nil e.came

-- ---- while they move

pub near_placed : (which : Sides) (ends : ℕ → Bool) (g g2 : Graph) (f : List KeyedQuotient) (d d2 : List KeyedChanges) (i : ℕ) (nodes : List ℕ) → HasMovedNear which ends g g2 f d
    → ArePlaced which g2 f d d2 i nodes → ((n : ℕ) → has nodes n ≡ affected which (shape_of g2) ends i n) → HasMovedNear which ends g g2 f d2
near_placed which ends g g2 f d d2 i nodes w p members = record {
  lowest = λ n was live. ap (λ (x : KeyedChanges). at (blocks_as_shown (level_at f 0) x) n) (p.others 0 (λ e. absurd (omega (arith, e)))) ∙ w.lowest n was live;
  far = λ j h. elim (eqb_tells j i) [
    | inl s ↦ subst (λ j. SameFar which ends (shape_of g2) j (blocks_at f (j + 1)) (blocks_shown f d2 (j + 1))) (sym s.1) (record {
      same = λ n live off. p.blocks n (members n ∙ off) ∙ (subst (λ j. SameFar which ends (shape_of g2) j (blocks_at f (j + 1)) (blocks_shown f d (j + 1))) s.1 (w.far j h)).same n live off;
    })
    | inr t ↦
        (let ne = t.1 in
        subst (λ (x : KeyedChanges). SameFar which ends (shape_of g2) j (blocks_at f (j + 1)) (blocks_as_shown (level_at f (j + 1)) x)) (sym (p.others (j + 1) (λ e. ne (omega (arith, e))))) (w.far j h))
  ];
}

-- ---- once they have moved

-- the key of a node that is no end, where it and its neighbours have the blocks that they had
stays_keyed : (which : Sides) (ends : ℕ → Bool) (s s2 : Shape) (below below2 : List (Option ℕ)) (n : ℕ) (key : List ℕ) → DiffersBy which ends s s2 → IsNode s2 n → IsFalse (ends n)
    → at below2 n ≡ at below n → ((d : Side) → IsTrue (counts which d) → (p : ℕ) → IsTrue (beside d s2 p n) → at below2 p ≡ at below p)
    → IsSidedKey which s below n key → IsSidedKey which s2 below2 n key
stays_keyed which ends s s2 below below2 n key differs live off own beside_same k = record {
  number = k.number;
  around = k.around;
  is = k.is;
  own_is = own ∙ k.own_is;
  rising = k.rising;
  each = λ c h.
      let q = k.each c h in
      let e : IsTrue (beside q.side s2 q.node n) = sym (differs.edge q.side q.counted q.node n live off) ∙ q.is_beside in
      record {
        side = q.side;
        counted = q.counted;
        node = q.node;
        is_beside = e;
        block = q.block;
        has_block = beside_same q.side q.counted q.node e ∙ q.has_block;
        is = q.is;
      };
  every = λ c q. k.every c (record {
    side = q.side;
    counted = q.counted;
    node = q.node;
    is_beside = differs.edge q.side q.counted q.node n live off ∙ q.is_beside;
    block = q.block;
    has_block = sym (beside_same q.side q.counted q.node q.is_beside) ∙ q.has_block;
    is = q.is;
  });
}

module _ (which : Sides) (ends : ℕ → Bool) (g g2 : Graph) (f : List KeyedQuotient) (d : List KeyedChanges) (before : AreLevelsBefore g g2 f)
    (differs : DiffersBy which ends (shape_of g) (shape_of g2)) (near : HasMovedNear which ends g g2 f d) where
  shape2 : IsShape (shape_of g2)
  shape2 = is_shape g2 before.graph_after

  -- a node of both graphs that is further than i - 1 edges from the ends has its block of level i
  still_own : (i n : ℕ) → i < length f → IsNode (shape_of g) n → IsNode (shape_of g2) n → IsFalse (affected which (shape_of g2) ends i n)
      → at (blocks_shown f d i) n ≡ at (blocks_at f i) n
  still_own zero n h was live off = near.lowest n was live
  still_own (suc i) n h was live off =
      subst (λ j. at (blocks_shown f d j) n ≡ at (blocks_at f j) n) (next_is i)
      ((near.far i (omega (arith, h))).same n live (unaffected_lower which (shape_of g2) shape2 ends i (suc i) n (omega arith) off))

  -- so have its neighbours
  still_beside : (i p n : ℕ) (e : Side) → i < length f → IsTrue (counts which e) → IsTrue (beside e (shape_of g2) p n) → IsNode (shape_of g2) n → IsFalse (affected which (shape_of g2) ends i n)
      → at (blocks_shown f d i) p ≡ at (blocks_at f i) p
  still_beside zero p n e h c on live off =
      near.lowest p (beside_node (shape_of g) (is_shape g before.graph) e p n (differs.edge e c p n live off ∙ on)) (beside_node (shape_of g2) shape2 e p n on)
  still_beside (suc i) p n e h c on live off =
      subst (λ j. at (blocks_shown f d j) p ≡ at (blocks_at f j) p) (next_is i)
      ((near.far i (omega (arith, h))).same p (beside_node (shape_of g2) shape2 e p n on) (unaffected_beside which (shape_of g2) shape2 ends i p n e c on off))

  -- one level above level i, a node further than i edges from the ends is in the block of its key
  far_keyed : (i n : ℕ) → i + 1 < length f → AreKeyedBases which g f → HasMovedAffected which ends g2 f d → IsFalse (affected which (shape_of g2) ends i n)
      → IsKeyed which (shape_of g2) (blocks_shown f d i) (blocks_shown f d (i + 1)) (key_shown f d (i + 1)) n
  far_keyed i n h keyed moving off = record {
    keyed = λ b e.
        let low : i < length f = omega (arith, h) in
        let live : IsNode (shape_of g2) n = (moving.levels (i + 1) h).partition.only n (is_some_at (at (blocks_shown f d (i + 1)) n) b e) in
        let k = (keyed.keyed i n h).keyed b (sym ((near.far i h).same n live off) ∙ e) in
        let was : IsNode (shape_of g) n = (before.bases.levels i low).partition.only n (is_some_at (at (blocks_at f i) n) k.2.number k.2.own_is) in (
          k.0,
          (moving.stay (i + 1) h).kept b k.0 k.1,
          stays_keyed which ends (shape_of g) (shape_of g2) (blocks_at f i) (blocks_shown f d i) n k.0 differs live (no_end which (shape_of g2) shape2 ends i n off)
              (still_own i n low was live off) (λ side c p on. still_beside i p n side low c on live off) k.2,
        );
  }

  -- so is each node, once those within i edges are placed
  pub near_all : (i : ℕ) → AreKeyedBases which g f → HasMovedAffected which ends g2 f d → AreKeyedTo which (affected which (shape_of g2) ends) g2 f d i → length f ≤ i + 1
      → AreKeyedAffected which ends g2 f d
  near_all i keyed moving k all = record {
    each = λ j n h on. elim (cases_Bool (affected which (shape_of g2) ends j n)) [
      | inl inside ↦ k.each j n (omega (arith, h, all)) inside
      | inr off ↦ far_keyed j n h keyed moving off
    ];
  }
