-- The ends of effects: a change alters a graph at those alone, by the sides that count.
use Rattle.std.proofs.Common.{◌≡◌, ◌≢◌, ◌⊎◌, ℕ, true, List, ◌++◌, IsTrue, IsFalse, refl, sym, ap, ◌∙◌, inl, inr, true≢false}
use Rattle.std.specs.Prelude.{nat_eq, ◌||◌}
use Rattle.std.proofs.lemmas.Bool.{cases_Bool, or_cases, or_left, or_right, false_from_ne_true}
use Rattle.std.proofs.lemmas.List.Folds.{list_any-append}
use Rattle.graph_spec.specs.Graphs.{Graph, is_live, has_edge}
use Rattle.graph_spec.specs.Members.{has}
use Rattle.graph_spec.specs.Shapes.{IsNode, shape_of}
use Rattle.bisim_spec.specs.declared.sides.Side.{Side}
use Rattle.bisim_spec.specs.declared.sides.Side.TheVariants.{Parents, Children}
use Rattle.bisim_spec.specs.declared.sides.Sides.{Sides}
use Rattle.bisim_spec.specs.declared.sides.Sides.TheVariants as sides
use Rattle.bisim_spec.specs.SidedLevels.{beside, DiffersBy}
use Rattle.bisim_spec.proofs.LevelSides.{differs_by_parents}
use Rattle.change_spec.specs.Steps.{Step, after}
use Rattle.change_spec.specs.Altered.{targets}
use Rattle.change_spec.specs.Ends.{ends, ends_by}
use Rattle.change_spec.proofs.EndsDiffer.{differs_by}
use Rattle.graph_effects.specs.Effects.{EffectLists, AreEffects, has_pair}
use Rattle.graph_effects.specs.StepEffects.{live_ends, ends_of}
use Rattle.graph_effects.proofs.EffectLaws.{no_change, effects_label, effects_edge, effects_differ}
use Rattle.graph_effects.proofs.NamedPairs.{new_parts}
use Rattle.graph_effects.proofs.StepEffects.{ends_there, ends_from}

-- the starts of edges that go, and of those that come
abbrev starts_lost : Graph → EffectLists → List ℕ
starts_lost g2 e = live_ends Children g2 e.lost

abbrev starts_added : Graph → EffectLists → List ℕ
starts_added g2 e = live_ends Children g2 e.added

both_has : (g2 : Graph) (e : EffectLists) (n : ℕ)
    → has (ends_of sides.Both g2 e) n ≡ ((has e.targets n || has (starts_lost g2 e) n) || has (starts_added g2 e) n)
both_has g2 e n =
    list_any-append (nat_eq n) (e.targets ++ starts_lost g2 e) (starts_added g2 e)
    ∙ ap (λ b. b || has (starts_added g2 e) n) (list_any-append (nat_eq n) e.targets (starts_lost g2 e))

-- an end is a target, or an edge from it goes or comes
both_cases : (g2 : Graph) (e : EffectLists) (n : ℕ) → has (ends_of sides.Both g2 e) n ≡ true
    → (has e.targets n ≡ true) ⊎ ((has (starts_lost g2 e) n ≡ true) ⊎ (has (starts_added g2 e) n ≡ true))
both_cases g2 e n h = elim (or_cases (has e.targets n || has (starts_lost g2 e) n) (has (starts_added g2 e) n) (sym (both_has g2 e n) ∙ h)) [
  | inl front ↦ elim (or_cases (has e.targets n) (has (starts_lost g2 e) n) front) [ inl target ↦ inl target | inr lost ↦ inr (inl lost) ]
  | inr added ↦ inr (inr added)
]

lost_in : (g2 : Graph) (e : EffectLists) (n : ℕ) → has (starts_lost g2 e) n ≡ true → has (ends_of sides.Both g2 e) n ≡ true
lost_in g2 e n h =
    both_has g2 e n ∙ or_left (has e.targets n || has (starts_lost g2 e) n) (has (starts_added g2 e) n) (or_right (has e.targets n) (has (starts_lost g2 e) n) h)

added_in : (g2 : Graph) (e : EffectLists) (n : ℕ) → has (starts_added g2 e) n ≡ true → has (ends_of sides.Both g2 e) n ≡ true
added_in g2 e n h = both_has g2 e n ∙ or_right (has e.targets n || has (starts_lost g2 e) n) (has (starts_added g2 e) n) h

-- targets are ends
pub target_in : (which : Sides) (g2 : Graph) (e : EffectLists) (n : ℕ) → has e.targets n ≡ true → has (ends_of which g2 e) n ≡ true
target_in sides.Parents g2 e n h = h
target_in sides.Both g2 e n h =
    both_has g2 e n ∙ or_left (has e.targets n || has (starts_lost g2 e) n) (has (starts_added g2 e) n) (or_left (has e.targets n) (has (starts_lost g2 e) n) h)

-- ends are nodes of the graph after
pub ends_live : (which : Sides) (g g2 : Graph) (e : EffectLists) (n : ℕ) → AreEffects g g2 e → has (ends_of which g2 e) n ≡ true → IsTrue (is_live g2 n)
ends_live sides.Parents g g2 e n w h = w.nodes n h
ends_live sides.Both g g2 e n w h = elim (both_cases g2 e n h) [
  | inl target ↦ w.nodes n target
  | inr start ↦ elim start [
    | inl lost ↦ (ends_from Children g2 e.lost n lost).0
    | inr added ↦ (ends_from Children g2 e.added n added).0
  ]
]

-- The graphs differ at the ends alone: each other node of the second has its label, and its neighbours on the sides that
-- count.
pub ends_differ : (which : Sides) (g g2 : Graph) (e : EffectLists) → AreEffects g g2 e → DiffersBy which (has (ends_of which g2 e)) (shape_of g) (shape_of g2)
ends_differ sides.Parents g g2 e w = differs_by_parents (has e.targets) (shape_of g) (shape_of g2) (effects_differ g g2 e w)
ends_differ sides.Both g g2 e w = record {
  label = λ n live off. effects_label g g2 e n w live (no_target n off);
  edge = λ d c p n live off. both d p n live off;
}
  where
    no_target : (n : ℕ) → IsFalse (has (ends_of sides.Both g2 e) n) → IsFalse (has e.targets n)
    no_target n off = false_from_ne_true (has e.targets n) (λ h. true≢false (sym (target_in sides.Both g2 e n h) ∙ off))

    both : (d : Side) (p n : ℕ) → IsNode (shape_of g2) n → IsFalse (has (ends_of sides.Both g2 e) n) → beside d (shape_of g) p n ≡ beside d (shape_of g2) p n
    both Parents p n live off = effects_edge g g2 e p n w live (no_target n off)
    both Children p n live off =
        no_change (has_edge g n p) (has_edge g2 n p)
        (sym (w.lost.members n p) ∙ false_from_ne_true (has_pair e.lost n p) (λ h. true≢false (sym (lost_in g2 e n (ends_there Children g2 e.lost p n h live)) ∙ off)))
        (sym (w.added.members n p) ∙ false_from_ne_true (has_pair e.added n p) (λ h. true≢false (sym (added_in g2 e n (ends_there Children g2 e.added p n h live)) ∙ off)))

-- a node with other children than before is an end of the change
other_children : (c : List Step) (g : Graph) (p n : ℕ) → IsTrue (is_live (after c g) n) → has_edge g n p ≢ has_edge (after c g) n p → ends c g n ≡ true
other_children c g p n live other = elim (cases_Bool (ends c g n)) [ inl on ↦ on | inr off ↦ absurd (other ((differs_by sides.Both c g).edge Children refl p n live off)) ]

-- the ends are ends of the change, where its targets are
pub ends_are : (which : Sides) (c : List Step) (g : Graph) (e : EffectLists) (n : ℕ) → AreEffects g (after c g) e → ((n : ℕ) → has e.targets n ≡ true → targets c g n ≡ true)
    → ((n : ℕ) → has e.targets n ≡ true → ends c g n ≡ true) → has (ends_of which (after c g) e) n ≡ true → ends_by which c g n ≡ true
ends_are sides.Parents c g e n w found among h = found n h
ends_are sides.Both c g e n w found among h = elim (both_cases (after c g) e n h) [
  | inl target ↦ among n target
  | inr start ↦ elim start [
    | inl lost ↦ (
        let r = ends_from Children (after c g) e.lost n lost in
        let p = new_parts (has_edge g n r.1.0) (has_edge (after c g) n r.1.0) (sym (w.lost.members n r.1.0) ∙ r.1.1) in
        other_children c g r.1.0 n r.0 (λ same. true≢false (sym p.0 ∙ same ∙ p.1)))
    | inr added ↦ (
        let r = ends_from Children (after c g) e.added n added in
        let p = new_parts (has_edge (after c g) n r.1.0) (has_edge g n r.1.0) (sym (w.added.members n r.1.0) ∙ r.1.1) in
        other_children c g r.1.0 n r.0 (λ same. true≢false (sym p.0 ∙ sym same ∙ p.1)))
  ]
]
