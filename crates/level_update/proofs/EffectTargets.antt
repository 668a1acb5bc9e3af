-- The nodes that are affected by the effects of a change.
use Rattle.std.proofs.Common.{◌≡◌, ◌⊎◌, ℕ, zero, suc, ◌+◌, ◌*◌, ◌<◌, ◌≤◌, ◌^◌, List, [], ◌∷◌, ◌++◌, length, IsTrue, refl, sym, ◌∙◌, ap, subst, arith, true, false, true≢false, inl, inr, Bool}
use Rattle.std.specs.FinSet as set
use Rattle.std.specs.Prelude.{nat_eq, ◌&&◌, not}
use Rattle.std.proofs.lemmas.Bool.{or_cases, and_parts}
use Rattle.std.proofs.lemmas.Bool.Decides.{Decides-eqb}
use Rattle.std.proofs.lemmas.List.{append-nil}
use Rattle.std.proofs.lemmas.List.Folds.{list_any-append}
use Rattle.std.proofs.Math.Nat.{mul-le-mul_left}
use Rattle.graph_spec.specs.Graphs.{Graph, IsGraph, is_live, has_edge}
use Rattle.graph_spec.specs.Members.{has}
use Rattle.graph_spec.specs.Shapes.{Shape, shape_of}
use Rattle.graph_spec.proofs.GraphLaws.{is_shape}
use Rattle.bisim_spec.specs.declared.sides.Side.{Side}
use Rattle.bisim_spec.specs.declared.sides.Side.TheVariants.{Parents, Children}
use Rattle.bisim_spec.specs.declared.sides.Sides.{Sides}
use Rattle.bisim_spec.specs.declared.sides.Sides.TheVariants as sides
use Rattle.bisim_spec.specs.Reach.{within_distance}
use Rattle.bisim_spec.specs.SidedLevels.{beside, spread, affected, DiffersBy}
use Rattle.bisim_spec.proofs.LevelSides.{spread_shape}
use Rattle.bisim_spec.proofs.Reached.{within_cases}
use Rattle.bisim_spec.specs.Weights.{weight}
use Rattle.change_spec.specs.Costs.{is_gone, cost}
use Rattle.change_spec.specs.Ends.{ends_by}
use Rattle.change_spec.proofs.MoreTargets.{near_wider}
use Rattle.level_spec.proofs.AffectedWeights.{weight_within}
use Rattle.std.specs.List.{sum_by}
use Rattle.graph_steps.specs.NewChanges.{IsNew}
use Rattle.graph_update.specs.PendingChanges.{Pending, graph_after}
use Rattle.graph_effects.specs.Effects.{EffectLists, AreEffects, has_pair}
use Rattle.graph_effects.specs.StepEffects.{live_ends, ends_of}
use Rattle.graph_effects.proofs.EffectLaws.{came_parts}
use Rattle.graph_effects.proofs.EffectEnds.{target_in, ends_live, ends_differ}
use Rattle.keyed_quotient.specs.KeyedQuotients.{KeyedQuotient}
use Rattle.keyed_quotient.specs.Changes.{KeyedChanges}
use Rattle.level_spec.specs.Keyed.{IsKeyed}
use Rattle.ak_family.specs.Families.{IsKeyedFamily, HaveSupportedKeys}
use Rattle.ak_family.specs.LevelDrafts.{blocks_shown, key_shown}
use Rattle.level_update.specs.LevelCosts.{move_cost, affected_cost, most_draft_steps}
use Rattle.level_update.specs.FamilyDrafts.{FamilyFits, most_steps}
use Rattle.level_update.specs.MovedLevels.{AreMoved}
use Rattle.level_update.specs.LevelEffects.{AreKeyedBases, AreLevelsBefore, AreLevelsDrafted, HasOwnKey, lone_nodes, keeps_keys}
use Rattle.affected_nodes.specs.ReadCosts.{side_count}
use Rattle.affected_nodes.proofs.SearchCosts.{starts}
use Rattle.level_update.proofs.Bases.{next_is, keyed_bases, bases}
use Rattle.level_update.proofs.EffectLevels.{same_some, levels_moving}
use Rattle.level_update.proofs.MovedDrafts.{HaveMoved, keyed_at}
use Rattle.level_update.proofs.PlacingCosts.{once_counted, ends_most}

-- ---- no edge comes or goes

-- the effects, with the nodes that come as their only targets
abbrev of_came : EffectLists → EffectLists
of_came e = record e { targets = e.came }

came_targets : (g g2 : Graph) (e : EffectLists) → AreEffects g g2 e → e.lost ≡ [] → e.added ≡ [] → e.relabelled ≡ [] → AreEffects g g2 (of_came e)
came_targets g g2 e w lost added none = record {
  seen = w.seen;
  came = w.came;
  gone = w.gone;
  relabelled = w.relabelled;
  lost = w.lost;
  added = w.added;
  nodes = λ n h. (came_parts g g2 e n w h).0;
  target_came = λ n h. h;
  target_relabelled = λ n h. absurd (true≢false (sym h ∙ ap (λ (xs : List ℕ). has xs n) none));
  target_added = λ u v h. absurd (true≢false (sym h ∙ ap (λ (es : List (ℕ × ℕ)). has_pair es u v) added));
  target_lost = λ u v h live. absurd (true≢false (sym h ∙ ap (λ (es : List (ℕ × ℕ)). has_pair es u v) lost));
}

-- they are its only ends
came_ends : (which : Sides) (g2 : Graph) (e : EffectLists) → e.lost ≡ [] → e.added ≡ [] → ends_of which g2 (of_came e) ≡ e.came
came_ends sides.Parents g2 e lost added = refl
came_ends sides.Both g2 e lost added =
    ap (λ (es : List (ℕ × ℕ)). (e.came ++ live_ends Children g2 es) ++ live_ends Children g2 e.added) lost
    ∙ ap (λ (es : List (ℕ × ℕ)). (e.came ++ []) ++ live_ends Children g2 es) added ∙ append-nil (e.came ++ []) ∙ append-nil e.came

-- no edge leads from a node that has come, or to it
came_lone : (g g2 : Graph) (e : EffectLists) (u v : ℕ) → AreEffects g g2 e → e.added ≡ [] → has_edge g2 u v ≡ true → has_edge g u v ≡ true
came_lone g g2 e u v w added on = was_there (has_edge g u v) (has_edge g2 u v) on (sym (w.added.members u v) ∙ ap (λ (es : List (ℕ × ℕ)). has_pair es u v) added)
  where
    was_there : (a b : Bool) → b ≡ true → (b && not a) ≡ false → a ≡ true
    was_there true b h k = refl
    was_there false true h k = absurd (true≢false k)
    was_there false false h k = absurd (true≢false (sym h))

came_not : (g g2 : Graph) (e : EffectLists) (n : ℕ) → AreEffects g g2 e → IsTrue (has e.came n) → IsTrue (is_live g n) → ⊥
came_not g g2 e n w came live = true≢false (sym live ∙ (came_parts g g2 e n w came).1)

-- so nothing is beside one
came_beside : (g g2 : Graph) (e : EffectLists) (d : Side) (p n : ℕ) → AreEffects g g2 e → IsGraph g → e.added ≡ [] → IsTrue (has e.came n) → IsTrue (beside d (shape_of g2) p n) → ⊥
came_beside g g2 e Parents p n w graph added came on = came_not g g2 e n w came (graph.onto p n (came_lone g g2 e p n w added on))
came_beside g g2 e Children p n w graph added came on = came_not g g2 e n w came (graph.from n p (came_lone g g2 e n p w added on))

came_spread : (which : Sides) (g g2 : Graph) (e : EffectLists) (p n : ℕ) → AreEffects g g2 e → IsGraph g → e.added ≡ [] → IsTrue (has e.came p) → (spread which (shape_of g2)).edge p n ≡ true → ⊥
came_spread sides.Parents g g2 e p n w graph added came on = came_beside g g2 e Children n p w graph added came on
came_spread sides.Both g g2 e p n w graph added came on = elim (or_cases (has_edge g2 p n) (has_edge g2 n p) on) [
  | inl child ↦ came_beside g g2 e Children n p w graph added came child
  | inr parent ↦ came_beside g g2 e Parents n p w graph added came parent
]

-- and nothing else is near them
came_near : (which : Sides) (g g2 : Graph) (e : EffectLists) (j n : ℕ) → AreEffects g g2 e → IsGraph g → e.added ≡ [] → affected which (shape_of g2) (has e.came) j n ≡ true → has e.came n ≡ true
came_near which g g2 e zero n w graph added h = h
came_near which g g2 e (suc j) n w graph added h = elim (within_cases (spread which (shape_of g2)) (has e.came) j n h) [
  | inl near ↦ came_near which g g2 e j n w graph added near
  | inr (p, near, on) ↦ absurd (came_spread which g g2 e p n w graph added (came_near which g g2 e j p w graph added near) on)
]

-- the key of such a node is its own number alone
own_keyed : (which : Sides) (g g2 : Graph) (e : EffectLists) (f : List KeyedQuotient) (d : List KeyedChanges) (i n : ℕ) → AreEffects g g2 e → IsGraph g → e.added ≡ [] → IsTrue (has e.came n)
    → HasOwnKey f d (suc i) n → IsKeyed which (shape_of g2) (blocks_shown f d i) (blocks_shown f d (suc i)) (key_shown f d (suc i)) n
own_keyed which g g2 e f d i n w graph added came (number, own, below, here, key) = record {
  keyed = λ b is.
      let same : own ≡ b = same_some own b (sym here ∙ is) in (
        number ∷ [],
        ap (key_shown f d (suc i)) (sym same) ∙ key,
        record {
          number = number;
          around = [];
          is = refl;
          own_is = below;
          rising = λ k h. absurd (omega (arith, h));
          each = λ c h. absurd (true≢false (sym h));
          every = λ c q. absurd (came_beside g g2 e q.side q.node n w graph added came q.is_beside);
        },
      );
}

came_moved : (which : Sides) (g g2 : Graph) (e : EffectLists) (f : List KeyedQuotient) (d : List KeyedChanges) → AreEffects g g2 e → e.lost ≡ [] → e.added ≡ [] → e.relabelled ≡ []
    → AreLevelsBefore g g2 f → AreKeyedBases which g f → AreLevelsDrafted e.came g2 f d → HaveMoved which (has e.came) g g2 f d
came_moved which g g2 e f d w lost added none before keyed drafted = record {
  graph = before.graph_after;
  differs = subst (λ (xs : List ℕ). DiffersBy which (has xs) (shape_of g) (shape_of g2)) (came_ends which g2 e lost added)
      (ends_differ which g g2 (of_came e) (came_targets g g2 e w lost added none));
  bases = keyed;
  moving = levels_moving which e.came (has e.came) g2 f d (λ n h. h) before.some drafted;
  within_keyed = record {
    each = λ i n h on.
        let came = came_near which g g2 e (i + 1) n w before.graph added on in
        let own = (drafted.each (i + 1) h).own n came in
        subst (λ j. IsKeyed which (shape_of g2) (blocks_shown f d i) (blocks_shown f d j) (key_shown f d j) n) (sym (next_is i))
        (own_keyed which g g2 e f d i n w before.graph added came (subst (λ j. HasOwnKey f d j n) (next_is i) own));
  };
  some = before.some;
}

-- ---- where no node needs to move

pub none_of : {X : Type 0} (xs : List X) → nat_eq (length xs) 0 ≡ true → xs ≡ []
none_of [] h = refl
none_of (x ∷ xs) h = absurd (let e = (Decides-eqb (length (x ∷ xs)) 0).0 h in omega (arith, e))

-- there is no end, or no edge comes or goes and no node gets another label
still_cases : (ends : List ℕ) (e : EffectLists) → keeps_keys ends e ≡ true → (ends ≡ []) ⊎ ((e.lost ≡ []) × (e.added ≡ []) × (e.relabelled ≡ []))
still_cases ends e h = elim (or_cases (nat_eq (length ends) 0) ((nat_eq (length e.lost) 0 && nat_eq (length e.added) 0) && nat_eq (length e.relabelled) 0) h) [
  | inl none ↦ inl (none_of ends none)
  | inr still ↦ (
      let both = and_parts (nat_eq (length e.lost) 0 && nat_eq (length e.added) 0) (nat_eq (length e.relabelled) 0) still in
      let edges = and_parts (nat_eq (length e.lost) 0) (nat_eq (length e.added) 0) both.0 in
      inr (none_of e.lost edges.0, none_of e.added edges.1, none_of e.relabelled both.1))
]

-- nodes that are put into the blocks of their own numbers are targets
pub lone_targets : (g g2 : Graph) (e : EffectLists) (n : ℕ) → AreEffects g g2 e → IsTrue (has (lone_nodes e) n) → has e.targets n ≡ true
lone_targets g g2 e n w h = elim (or_cases (has e.came n) (has e.relabelled n) (sym (list_any-append (nat_eq n) e.came e.relabelled) ∙ h)) [
  | inl came ↦ w.target_came n came
  | inr other ↦ w.target_relabelled n other
]

-- so they are among the ends
pub lone_ends : (which : Sides) (g g2 : Graph) (e : EffectLists) (ends : List ℕ) (n : ℕ) → AreEffects g g2 e → ends ≡ ends_of which g2 e → IsTrue (has (lone_nodes e) n) → has ends n ≡ true
lone_ends which g g2 e ends n w is h = ap (λ (xs : List ℕ). has xs n) is ∙ target_in which g2 e n (lone_targets g g2 e n w h)

-- from no nodes no edges lead anywhere
none_near : (s : Shape) (ends : List ℕ) (j n : ℕ) → ends ≡ [] → within_distance s (has ends) j n ≡ true → ⊥
none_near s ends zero n none h = true≢false (sym h ∙ ap (λ (xs : List ℕ). has xs n) none)
none_near s ends (suc j) n none h = elim (within_cases s (has ends) j n h) [
  | inl e ↦ none_near s ends j n none e
  | inr (p, a, e) ↦ none_near s ends j p none a
]

pub still_moved : (which : Sides) (g g2 : Graph) (e : EffectLists) (ends : List ℕ) (f : List KeyedQuotient) (d : List KeyedChanges) → AreEffects g g2 e → ends ≡ ends_of which g2 e
    → keeps_keys ends e ≡ true → AreLevelsBefore g g2 f → AreKeyedBases which g f → AreLevelsDrafted (lone_nodes e) g2 f d → AreMoved which (has ends) g2 f d
still_moved which g g2 e ends f d w is still before keyed drafted = record {
  moving = levels_moving which (lone_nodes e) (has ends) g2 f d (λ n h. lone_ends which g g2 e ends n w is h) before.some drafted;
  keyed = elim (still_cases ends e still) [
    | inl none ↦ record { each = λ i n h on. absurd (none_near (spread which (shape_of g2)) ends (i + 1) n none on) }
    | inr (lost, added, none) ↦ record {
      each = λ i n h on.
          keyed_at which (has e.came) g g2 f d
          (came_moved which g g2 e f d w lost added none before keyed
          (subst (λ (xs : List ℕ). AreLevelsDrafted xs g2 f d) (ap (λ (xs : List ℕ). e.came ++ xs) none ∙ append-nil e.came) drafted))
          i n h;
    }
  ];
}

-- the nodes that get another label are ends, and cost no more to move than is near the ends
pub relabels_most : (which : Sides) (a : Pending) (e : EffectLists) (ends : List ℕ) (k : ℕ) → IsNew a.change a.before → IsGraph a.before → IsGraph (graph_after a)
    → AreEffects a.before (graph_after a) e → ends ≡ ends_of which (graph_after a) e → sum_by (move_cost a) e.relabelled ≤ 3 * affected_cost which a (has ends) k
relabels_most which a e ends k new before left w is =
    let g2 = graph_after a in
    ends_most which a ends k e.relabelled
    (starts a (has ends) new before left (λ n h. ends_live which a.before g2 e n w (ap (λ (xs : List ℕ). has xs n) (sym is) ∙ h))) w.relabelled.once
    (λ n h. ap (λ (xs : List ℕ). has xs n) is ∙ target_in which g2 e n (w.target_relabelled n h))

-- ---- what is known of a change

-- the family is that of the graph before the change
pub levels_before : (which : Sides) (a b : Pending) (f : List KeyedQuotient) → a ≡ b → IsGraph a.before → IsGraph (graph_after a) → FamilyFits which b.before f → IsKeyedFamily f
    → HaveSupportedKeys which f → 0 < length f → set.len (graph_after a).edges ≤ 2 ^ 30 → length b.before.allocated ≤ 2 ^ 30 → AreLevelsBefore a.before (graph_after a) f
levels_before which a b f same graph graph2 fits family keys some few small = record {
  bases = bases which a.before f graph (subst (λ (p : Pending). FamilyFits which p.before f) (sym same) fits) family keys;
  some = some;
  graph = graph;
  graph_after = graph2;
  few = few;
  small = subst (λ (p : Pending). length p.before.allocated ≤ 2 ^ 30) (sym same) small;
}

-- and each node is in the block of its key
pub keyed_before : (which : Sides) (a b : Pending) (f : List KeyedQuotient) → a ≡ b → IsGraph a.before → FamilyFits which b.before f → IsKeyedFamily f → HaveSupportedKeys which f
    → AreKeyedBases which a.before f
keyed_before which a b f same graph fits family keys = keyed_bases which a.before f graph (subst (λ (p : Pending). FamilyFits which p.before f) (sym same) fits) family keys

pub effects_moved : (which : Sides) (g g2 : Graph) (e : EffectLists) (ends : List ℕ) (f : List KeyedQuotient) (d : List KeyedChanges) → AreEffects g g2 e → ends ≡ ends_of which g2 e
    → AreLevelsBefore g g2 f → AreKeyedBases which g f → AreMoved which (has ends) g2 f d → HaveMoved which (has ends) g g2 f d
effects_moved which g g2 e ends f d w is before keyed moved = record {
  graph = before.graph_after;
  differs = subst (λ (xs : List ℕ). DiffersBy which (has xs) (shape_of g) (shape_of g2)) (sym is) (ends_differ which g g2 e w);
  bases = keyed;
  moving = moved.moving;
  within_keyed = moved.keyed;
  some = before.some;
}

-- The effects, at no more than twice the cost, and what it takes to draft a part of it, are no more than eight times
-- the cost at each level.
total_steps : (k part all effects old found new : ℕ) → part ≤ all → effects ≤ 2 * all → found ≤ old + effects → new ≤ found + (6 * k + 4) * part → new ≤ old + 8 * (k + 1) * all
total_steps k part all effects old found new less few start spent = (let more = mul-le-mul_left (6 * k + 4) less in omega (arith, few, start, spent, more))

-- what is within some edges of some of the ends costs no more than what is within them of all
near_less : (which : Sides) (a : Pending) (some ends : ℕ → Bool) (k : ℕ) → IsGraph (graph_after a) → ((n : ℕ) → some n ≡ true → ends n ≡ true)
    → affected_cost which a some k ≤ affected_cost which a ends k
near_less which a some ends k graph among =
    let s = shape_of (graph_after a) in
    let wider = weight_within s (affected which s some k) (affected which s ends k)
    (near_wider (spread which s) (spread_shape which s (is_shape (graph_after a) graph)) some ends among k)
    in
    let more : cost a.change a.before (affected which s some k) ≤ cost a.change a.before (affected which s ends k) = omega (arith, wider) in
    mul-le-mul_left (side_count which) more

-- What is spent is within the bound of the change: first to find its effects, and then to move what some of its ends
-- affect.
pub change_steps : (which : Sides) (a b : Pending) (listed : List ℕ) (k old found new : ℕ) → a ≡ b → IsGraph (graph_after a)
    → ((n : ℕ) → has listed n ≡ true → ends_by which a.change a.before n ≡ true)
    → found ≤ old + length a.change + 2 * weight (shape_of a.before) (is_gone a.before (graph_after a)) → new ≤ found + most_draft_steps which a (has listed) k
    → new ≤ old + most_steps which b.before b.change k
change_steps which a b listed k old found new same graph among start spent =
    let ends : ℕ → Bool = ends_by which a.change a.before in
    let effects : ℕ = length a.change + 2 * weight (shape_of a.before) (is_gone a.before (graph_after a)) in
    let once = once_counted which (cost a.change a.before (affected which (shape_of (graph_after a)) ends k)) in
    let few : effects ≤ 2 * affected_cost which a ends k = omega (arith, once) in
    let first : found ≤ old + effects = omega (arith, start) in
    subst (λ (p : Pending). new ≤ old + most_steps which p.before p.change k) same
    (total_steps k (affected_cost which a (has listed) k) (affected_cost which a ends k) effects old found new (near_less which a (has listed) ends k graph among) few first spent)

-- where the effects aren't found
pub change_start : (which : Sides) (a b : Pending) (k old found : ℕ) → a ≡ b → IsGraph (graph_after a)
    → found ≤ old + length a.change + 2 * weight (shape_of a.before) (is_gone a.before (graph_after a)) → found ≤ old + most_steps which b.before b.change k
change_start which a b k old found same graph start = change_steps which a b [] k old found found same graph (λ n h. absurd (true≢false (sym h))) start (omega arith)
