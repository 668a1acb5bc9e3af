-- The view of the forward and backward index as one that fits.
use Rattle.std.proofs.Common.{◌≡◌, ℕ, zero, suc, ◌<◌, Bool, true, false, List, [], ◌∷◌, Option, Some, None, IsSome, arith, refl, sym, ap, subst, true≢false}
use Rattle.std.specs.Prelude.{is_none, is_some}
use Rattle.graph_spec.specs.Graphs.{Graph}
use Rattle.change_spec.specs.Steps.{Step, after}
use Rattle.bisim_spec.specs.declared.kind.Kind.TheVariants.{Fb}
use Rattle.bisim_spec.specs.IndexGraphs.{View}
use Rattle.bisim_spec.specs.Fits.{Fits, FitsAt, FitsFb, view_at}
use Rattle.quotient.specs.Quotients.{Quotient, view_of}
use Rattle.index_api.specs.Meanings.{IsReady, IsPrepared, IsRefreshed}
use Rattle.fb_index.specs.FbMeanings.{views_of, staged_of, meaning_of}

-- one view that is what it must be
pub one_fits : (g : Graph) (o : Option View) → FitsAt Fb g 0 o → Fits Fb (o ∷ []) g
one_fits g o h = record { count = refl; each = at_each }
  where
    at_each : (i : ℕ) → i < 1 → FitsAt Fb g i (view_at (o ∷ []) i)
    at_each zero w = h
    at_each (suc i) w = absurd (omega (arith, w))

-- the view that is computed
pub computed : (g : Graph) (summary : Option Quotient) (q : Quotient) (staged : Bool) → summary ≡ Some q → staged ≡ false → FitsFb g (view_of q) → IsReady (meaning_of summary staged) g
computed g summary q staged e n fits = record {
  fits = subst (λ s. Fits Fb (views_of s) g) (sym e) (one_fits g (Some (view_of q)) fits);
  unstaged = ap staged_of n;
}

-- a view that isn't computed is prepared
pub prepared : (summary : Option Quotient) (staged : Bool) (c : List Step) (g : Graph) → IsPrepared (meaning_of summary staged) (meaning_of summary true) c g
prepared summary staged c g = record {
  kind = refl;
  views = refl;
  next = None ∷ [];
  staged = refl;
  are_next = record { count = refl; fits = one_fits (after c g) None tt; step = tt };
}

-- the view that wasn't computed, and is now
pub refreshed : (summary : Option Quotient) (q : Quotient) (staged : Bool) (g : Graph) → is_none summary ≡ true → staged_of staged ≡ None → FitsFb g (view_of q)
    → IsRefreshed (meaning_of summary staged) (meaning_of (Some q) staged) g
refreshed (Some p) q staged g n u fits = absurd (true≢false (sym n))
refreshed None q staged g n u fits = record {
  keeps = record { kind = refl; count = refl; kept = none };
  ready = record { fits = one_fits g (Some (view_of q)) fits; unstaged = u };
  computed = there;
}
  where
    none : (i : ℕ) (v : View) → view_at (None ∷ []) i ≡ Some v → view_at (views_of (Some q)) i ≡ Some v
    none zero v h = absurd (true≢false (sym (ap is_some h)))
    none (suc i) v h = absurd (true≢false (sym (ap is_some h)))

    there : (i : ℕ) → i < 1 → IsSome (view_at (views_of (Some q)) i)
    there zero w = refl
    there (suc i) w = absurd (omega (arith, w))
