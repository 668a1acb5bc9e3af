-- Which states and places a list of pairs has.
use Rattle.std.proofs.Common.{◌≡◌, ℕ, ◌<◌, inl, inr, Bool, List, length, refl, ap, ◌∙◌, arith, cond, Option, Some, None, IsTrue}
use Rattle.std.specs.Prelude.{slice_get, is_some, IsSome}
use Rattle.std.proofs.lemmas.Bool.{ne_eqb}
use Rattle.path_automaton.specs.ProductSteps.{leads}
use Rattle.std.proofs.lemmas.Option.{slice_get_within}
use Rattle.px_base.specs.BitSets.{BitSet}
use Rattle.path_automaton.specs.declared.state.State.{State}
use Rattle.path_automaton.specs.NewMarks.{Enters}
use Rattle.state_sets.specs.StateSets.{ForkedTo, here, onward}
use Rattle.walk_proof.specs.declared.marks.Pair.{Pair}
use Rattle.walk_proof.specs.Marking.{Notes}
use Rattle.walk_proof.specs.Sources.{Leads}
use Rattle.walk_proof.specs.Layering.{ForkedInto, AreInside}

pub enters_within : (xs : List State) (s k : ℕ) → Enters (slice_get xs s) k → s < length xs
enters_within xs s k h = by (slice_get xs s) refl h
  where
    by : (o : Option State) → slice_get xs s ≡ o → Enters o k → s < length xs
    by None e h = absurd h
    by (Some x) e h = slice_get_within xs s x e

pub state_within : (xs : List State) (s : ℕ) → IsSome (slice_get xs s) → s < length xs
state_within xs s h = by (slice_get xs s) refl h
  where
    by : (o : Option State) → slice_get xs s ≡ o → IsSome o → s < length xs
    by None e h = absurd (cc)
    by (Some x) e h = slice_get_within xs s x e

pub forked_within : (xs : List State) (s k : ℕ) → ForkedTo (λ n. slice_get xs n) s k → k < length xs → s < length xs
forked_within xs s k here b = b
forked_within xs s k (onward r k1 f e) b = forked_within xs s r f (enters_within xs r k1 e)

pub stay_inside : (xs : List State) (width : ℕ) (before layer : List Pair) (rows rows2 : List BitSet) → AreInside (length xs) width before
    → Notes (ForkedInto (λ n. slice_get xs n) before) rows rows2 before layer → AreInside (length xs) width layer
stay_inside xs width before layer rows rows2 inside a s c h = elim (a.source s c h) [
  | inl old ↦ inside s c old
  | inr p ↦ (let i = inside p.0.0 c p.0.1 in (forked_within xs s p.0.0 p.0.2 i.0, i.1))
]

pub leads_within : (xs : List State) (s k : ℕ) → Leads (slice_get xs s) k → s < length xs
leads_within xs s k h = by (slice_get xs s) refl h
  where
    by : (o : Option State) → slice_get xs s ≡ o → Leads o k → s < length xs
    by None e h = absurd h
    by (Some x) e h = slice_get_within xs s x e

-- a node leads to its children
pub leads_by_edge : (size : ℕ) (label_at : ℕ → Option ℕ) (edge : ℕ → ℕ → Bool) (c x : ℕ) → c < size → IsTrue (edge c x) → IsTrue (leads size label_at edge c x)
leads_by_edge size label_at edge c x b h = ap (λ t. cond t (is_some (label_at x)) (edge c x)) (ne_eqb c size (λ e. absurd (omega (arith, e, b)))) ∙ h
