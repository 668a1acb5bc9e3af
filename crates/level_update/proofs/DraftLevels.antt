-- The levels of a draft, one of which is done.
use Rattle.std.proofs.Common.{◌≡◌, ℕ, ◌+◌, ◌<◌, ◌≤◌, List, Some, Bool, IsTrue, sym, ◌∙◌, ap, subst, arith, inl, inr, length}
use Rattle.std.proofs.lemmas.Bool.{cases_lt, false_from_ne_true, both_ways}
use Rattle.std.proofs.lemmas.Bool.Decides.{eqb_tells}
use Rattle.graph_spec.specs.Graphs.{Graph}
use Rattle.graph_spec.specs.Shapes.{shape_of}
use Rattle.graph_spec.specs.Members.{at, has, Lists}
use Rattle.bisim_spec.specs.declared.sides.Sides.{Sides}
use Rattle.bisim_spec.specs.SidedLevels.{affected}
use Rattle.keyed_quotient.specs.KeyedQuotients.{KeyedQuotient, key_at}
use Rattle.keyed_quotient.specs.Changes.{KeyedChanges, blocks_as_shown, labels_as_shown, support_as_shown, shown_key}
use Rattle.ak_family.specs.Families.{level_at, blocks_at}
use Rattle.ak_family.specs.LevelDrafts.{blocks_shown, labels_shown, support_shown, key_shown}
use Rattle.level_spec.specs.Keyed.{IsKeyed, KeysStay, SameFar, AreLabelled, IsLevelOf, LabelsGoUp, first_number}
use Rattle.level_update.specs.MovedLevels.{HasMovedAffected, AreKeyedAffected}
use Rattle.level_update.specs.Placed.{AreTwoLevels, ArePlaced}

-- a level and the one above it
pub two_levels : (sides : Sides) (ends : ℕ → Bool) (g : Graph) (f : List KeyedQuotient) (d : List KeyedChanges) (i : ℕ) → HasMovedAffected sides ends g f d → i + 1 < length f → AreTwoLevels g f d i
two_levels sides ends g f d i m h = record {
  over = m.over;
  within = h;
  lower = m.levels i (omega (arith, h));
  upper = m.levels (i + 1) h;
  up = m.up i h;
}

-- Once some of the nodes within one edge more are placed, all holds still.
pub moving_placed : (sides : Sides) (ends : ℕ → Bool) (g : Graph) (f : List KeyedQuotient) (d d2 : List KeyedChanges) (i : ℕ) (nodes : List ℕ) → HasMovedAffected sides ends g f d
    → ArePlaced sides g f d d2 i nodes → ((n : ℕ) → IsTrue (has nodes n) → IsTrue (affected sides (shape_of g) ends (i + 1) n)) → HasMovedAffected sides ends g f d2
moving_placed sides ends g f d d2 i nodes m p l = record {
  over = p.levels.over;
  levels = λ j h. elim (eqb_tells j (i + 1)) [
    | inl s ↦ subst (λ j. IsLevelOf g (blocks_shown f d2 j) (labels_shown f d2 j) (support_shown f d2 j)) (sym s.1) p.levels.upper
    | inr t ↦ subst (λ (x : KeyedChanges). IsLevelOf g (blocks_as_shown (level_at f j) x) (labels_as_shown (level_at f j) x) (support_as_shown (level_at f j) x)) (sym (p.others j t.1)) (m.levels j h)
  ];
  lowest = subst (λ (x : KeyedChanges). AreLabelled (labels_as_shown (level_at f 0) x) (shown_key (level_at f 0) x)) (sym (p.others 0 (λ e. absurd (omega (arith, e))))) m.lowest;
  up = λ j h. elim (eqb_tells j i) [
    | inl s ↦ subst (λ j. LabelsGoUp (labels_shown f d2 j) (labels_shown f d2 (j + 1)) (key_shown f d2 (j + 1))) (sym s.1) p.levels.up
    | inr t ↦
        (let ne = t.1 in
        let same = p.others (j + 1) (λ e. ne (omega (arith, e))) in
        record {
          is = λ b number e.
              let first = ap (λ (x : KeyedChanges). first_number (shown_key (level_at f (j + 1)) x b)) (sym same) ∙ e in
              let is = (m.up j h).is b number first in
              (is.0, labels_kept j number is.0 is.1, ap (λ (x : KeyedChanges). at (labels_as_shown (level_at f (j + 1)) x) b) same ∙ is.2);
        })
  ];
  stay = λ j h. elim (eqb_tells j (i + 1)) [
    | inl s ↦ record {
      kept = λ b numbers e.
          let before = (m.stay j h).kept b numbers e in
          subst (λ j. key_shown f d2 j b ≡ Some numbers) (sym s.1) (p.keys.kept b numbers (subst (λ j. key_shown f d j b ≡ Some numbers) s.1 before));
    }
    | inr t ↦ subst (λ (x : KeyedChanges). KeysStay (key_at (level_at f j).keys) (shown_key (level_at f j) x)) (sym (p.others j t.1)) (m.stay j h)
  ];
  far = λ j h. elim (eqb_tells j (i + 1)) [
    | inl s ↦ subst (λ j. SameFar sides ends (shape_of g) j (blocks_at f j) (blocks_shown f d2 j)) (sym s.1) (record {
      same = λ n node off. p.blocks n (false_from_ne_true (has nodes n) (λ t. both_ways (affected sides (shape_of g) ends (i + 1) n) off (l n t)))
          ∙ (subst (λ j. SameFar sides ends (shape_of g) j (blocks_at f j) (blocks_shown f d j)) s.1 (m.far j h)).same n node off;
    })
    | inr t ↦ subst (λ (x : KeyedChanges). SameFar sides ends (shape_of g) j (blocks_at f j) (blocks_as_shown (level_at f j) x)) (sym (p.others j t.1)) (m.far j h)
  ];
}
  where
    labels_kept : (j b l : ℕ) → at (labels_shown f d j) b ≡ Some l → at (labels_shown f d2 j) b ≡ Some l
    labels_kept j b l e = elim (eqb_tells j (i + 1)) [
      | inl s ↦ subst (λ j. at (labels_shown f d2 j) b ≡ Some l) (sym s.1) (p.labels.kept b l (subst (λ j. at (labels_shown f d j) b ≡ Some l) s.1 e))
      | inr t ↦ ap (λ (x : KeyedChanges). at (labels_as_shown (level_at f j) x) b) (p.others j t.1) ∙ e
    ]

-- the nodes that are placed one level above each level: those within one edge more of the ends than the level
abbrev pub one_more : Sides → (ℕ → Bool) → Graph → ℕ → ℕ → Bool
one_more sides ends g j n = affected sides (shape_of g) ends (j + 1) n

-- at the levels up to i the nodes that are placed are in the blocks of their keys
pub record AreKeyedTo (sides : Sides) (placed : ℕ → ℕ → Bool) (g : Graph) (f : List KeyedQuotient) (d : List KeyedChanges) (i : ℕ) : Type 0 where
  pub each : (j n : ℕ) → j < i → IsTrue (placed j n) → IsKeyed sides (shape_of g) (blocks_shown f d j) (blocks_shown f d (j + 1)) (key_shown f d (j + 1)) n

pub keyed_start : (sides : Sides) (placed : ℕ → ℕ → Bool) (g : Graph) (f : List KeyedQuotient) (d : List KeyedChanges) → AreKeyedTo sides placed g f d 0
keyed_start sides placed g f d = record { each = λ j n h on. absurd (omega (arith, h)) }

pub keyed_next : (sides : Sides) (placed : ℕ → ℕ → Bool) (g : Graph) (f : List KeyedQuotient) (d d2 : List KeyedChanges) (i : ℕ) (nodes : List ℕ) → AreKeyedTo sides placed g f d i
    → ArePlaced sides g f d d2 i nodes → Lists (placed i) nodes → AreKeyedTo sides placed g f d2 (i + 1)
keyed_next sides placed g f d d2 i nodes k p l = record {
  each = λ j n h on. elim (cases_lt j i) [
    | inl below ↦
        (let same = p.others j (λ e. absurd (omega (arith, e, below))) in
        let same_up = p.others (j + 1) (λ e. absurd (omega (arith, e, below))) in
        subst (λ (x : KeyedChanges). IsKeyed sides (shape_of g) (blocks_as_shown (level_at f j) x) (blocks_shown f d2 (j + 1)) (key_shown f d2 (j + 1)) n) (sym same)
        (subst (λ (x : KeyedChanges). IsKeyed sides (shape_of g) (blocks_shown f d j) (blocks_as_shown (level_at f (j + 1)) x) (shown_key (level_at f (j + 1)) x) n) (sym same_up) (k.each j n below on)))
    | inr past ↦
        (let same : j ≡ i = omega (arith, h, past) in
        subst (λ j. IsKeyed sides (shape_of g) (blocks_shown f d2 j) (blocks_shown f d2 (j + 1)) (key_shown f d2 (j + 1)) n) (sym same)
        (p.keyed n (l.members n ∙ subst (λ j. IsTrue (placed j n)) same on)))
  ];
}

-- all levels are done
pub keyed_all : (sides : Sides) (ends : ℕ → Bool) (g : Graph) (f : List KeyedQuotient) (d : List KeyedChanges) (i : ℕ) → AreKeyedTo sides (one_more sides ends g) g f d i → length f ≤ i + 1 → AreKeyedAffected sides ends g f d
keyed_all sides ends g f d i k all = record { each = λ j n h on. k.each j n (omega (arith, h, all)) on }
