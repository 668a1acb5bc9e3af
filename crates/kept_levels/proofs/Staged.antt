-- What is staged, and what is in force once it is committed.
use Rattle.std.proofs.Common.{◌≡◌, ℕ, ◌+◌, ◌<◌, List, Option, Some, None, IsSome, length, option_map, refl, sym, ◌∙◌, ap, subst, arith, true≢false}
use Rattle.graph_spec.specs.Graphs.{Graph}
use Rattle.change_spec.specs.Steps.{Step, after}
use Rattle.bisim_spec.specs.declared.sides.Sides.{Sides}
use Rattle.bisim_spec.specs.IndexGraphs.{View}
use Rattle.bisim_spec.specs.Fits.{kind_of}
use Rattle.keyed_quotient.specs.KeyedQuotients.{KeyedQuotient}
use Rattle.keyed_quotient.specs.Changes.{KeyedChanges}
use Rattle.ak_family.specs.LevelDrafts.{AreSeenAs, AreSettled}
use Rattle.level_update.specs.FamilyDrafts.{FamilyFits, ShownFit}
use Rattle.index_api.specs.Meanings.{IsReady, IsBuilt, IsPrepared, IsCommitted, unstaged}
use Rattle.kept_levels.specs.KeptFamilies.{KeptFamily, views_of, settled_views, meaning_of}
use Rattle.kept_levels.proofs.FamilyViews.{view_total, settled_total, family_fits, fits_family, shown_fits, views_some, level_count, begins_so, moves_so, same_views, views_settled}

-- what is ready has a family, with nothing staged
pub record IsReadyKept (sides : Sides) (k : KeptFamily) (g : Graph) : Type 0 where
  pub fits : FamilyFits sides g k.base
  pub some : 0 < length k.base
  pub unstaged : k.staged ≡ None

none_mapped : (f : List KeyedChanges → List (Option View)) (o : Option (List KeyedChanges)) → option_map f o ≡ None → o ≡ None
none_mapped f None h = refl
none_mapped f (Some d) h = absurd (cc)

pub ready_kept : (sides : Sides) (k : KeptFamily) (g : Graph) → IsReady (meaning_of sides (Some k)) g → IsReadyKept sides k g
ready_kept sides k g ready =
    let total = view_total k.base in
    let count = views_some sides (length (views_of k.base)) ready.fits.count in
    record { fits = fits_family sides g k.base ready.fits; some = omega (arith, total, count); unstaged = none_mapped (settled_views k.base) k.staged ready.unstaged }

-- how many levels there are
pub kept_total : (k : KeptFamily) (n : ℕ) → length (views_of k.base) ≡ n → length k.base ≡ n
kept_total k n count = sym (view_total k.base) ∙ count

-- a draft is staged over a family that is the same but for reserved capacity
pub prepared : (sides : Sides) (k : KeptFamily) (base : List KeyedQuotient) (d : List KeyedChanges) (g : Graph) (c : List Step) → IsReady (meaning_of sides (Some k)) g → AreSeenAs k.base base
    → ShownFit sides (after c g) base d → IsPrepared (meaning_of sides (Some k)) (meaning_of sides (Some (record { base = base; staged = Some d }))) c g
prepared sides k base d g c ready same fits =
    let some = (ready_kept sides k g ready).some in
    let count = same.count in
    let total = settled_total base d in
    let total2 = view_total k.base in
    record {
      kind = refl;
      views = same_views k.base base same;
      next = settled_views base d;
      staged = refl;
      are_next = record { count = omega (arith, count, total, total2); fits = shown_fits sides (after c g) base d (omega (arith, some, count)) fits; step = moves_so sides g _ _ c };
    }

-- nothing is staged after as before
pub kept_meaning : (sides : Sides) (k k2 : KeptFamily) (g : Graph) → IsReady (meaning_of sides (Some k)) g → AreSeenAs k.base k2.base → k2.staged ≡ None
    → meaning_of sides (Some k2) ≡ meaning_of sides (Some k)
kept_meaning sides k k2 g ready same none =
    let views = same_views k.base k2.base same in
    let staged = ap (option_map (settled_views k2.base)) none ∙ sym ready.unstaged in
    λ j. record { kind = kind_of sides; views = views j; staged = staged j }

-- what was staged is in force
pub committed : (sides : Sides) (k k2 : KeptFamily) (d : List KeyedChanges) → k.staged ≡ Some d → AreSettled k.base d k2.base → k2.staged ≡ None
    → IsCommitted (meaning_of sides (Some k)) (meaning_of sides (Some k2))
committed sides k k2 d e settled none = record {
  kind = refl;
  views = ap (option_map (settled_views k.base)) e ∙ ap (λ (vs : List (Option View)). Some vs) (views_settled k.base k2.base d settled);
  unstaged = ap (option_map (settled_views k2.base)) none;
}

-- nothing is staged where there is no draft
pub never_committed : (sides : Sides) (k : KeptFamily) → k.staged ≡ None → IsSome (meaning_of sides (Some k)).staged → ⊥
never_committed sides k e there = true≢false (sym (subst (λ (o : Option (List KeyedChanges)). IsSome (option_map (settled_views k.base) o)) e there))

pub cancelled : (sides : Sides) (k k2 : KeptFamily) → k2.base ≡ k.base → k2.staged ≡ None → meaning_of sides (Some k2) ≡ unstaged (meaning_of sides (Some k))
cancelled sides k k2 base none =
    let views = ap views_of base in
    let staged = ap (option_map (settled_views k2.base)) none in
    λ j. record { kind = kind_of sides; views = views j; staged = staged j }

-- the views of a family that is built
pub built : (sides : Sides) (f : List KeyedQuotient) (g : Graph) (n : ℕ) → length f ≡ n + 1 → FamilyFits sides g f
    → IsBuilt (meaning_of sides None) (meaning_of sides (Some (record { base = f; staged = None }))) g n
built sides f g n count fits = record {
  kind = refl;
  ready = record { fits = family_fits sides g f (omega (arith, count)) fits; unstaged = refl };
  count = view_total f ∙ count ∙ sym (level_count sides n);
  full = begins_so sides g _;
}
