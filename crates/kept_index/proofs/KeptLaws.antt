-- What follows of an index from what it keeps.
use Rattle.std.proofs.Common.{◌≡◌, ℕ, List, [], length, Option, Some, None, IsSome, false, true≢false, refl, sym, subst, arith, ◌∙◌}
use Rattle.graph_spec.specs.Graphs.{Graph}
use Rattle.bisim_spec.specs.declared.kind.Kind.{Kind}
use Rattle.bisim_spec.specs.declared.kind.Kind.TheVariants.{A, One, Fb, B}
use Rattle.bisim_spec.specs.IndexGraphs.{View}
use Rattle.bisim_spec.specs.Fits.{FitsAt, HasCount, view_at, view_count}
use Rattle.index_api.specs.Meanings.{Meaning, IsReady, IsBuilt, IsRefreshed, BeginsFull}
use Rattle.index_api.specs.IndexKinds.{is_kind}

-- each index has a view
some_count : (kind : Kind) → HasCount kind 0 → ⊥
some_count A h = absurd (omega (arith, h))
some_count One h = absurd (omega (arith, h))
some_count Fb h = absurd (omega (arith, h))
some_count B h = absurd (omega (arith, h))

-- so one without views isn't ready
pub bare_unready : (m : Meaning) (g : Graph) → m.views ≡ [] → IsReady m g → ⊥
bare_unready m g bare ready = some_count m.kind (subst (λ (views : List (Option View)). HasCount m.kind (length views)) bare ready.fits.count)

-- what was built counts from any index of the kind
pub built_from : (m m0 new : Meaning) (g : Graph) (k : ℕ) → m.kind ≡ m0.kind → IsBuilt m0 new g k → IsBuilt m new g k
built_from m m0 new g k e built = record {
  kind = built.kind ∙ sym e;
  ready = built.ready;
  count = subst (λ x. length new.views ≡ view_count x k) (sym e) built.count;
  full = subst (λ x. BeginsFull x g (view_at new.views 0)) (sym e) built.full;
}

view_there : (kind : Kind) (g : Graph) (i : ℕ) (o : Option View) → is_kind kind Fb ≡ false → FitsAt kind g i o → IsSome o
view_there kind g i (Some v) e h = refl
view_there A g i None e h = absurd h
view_there One g i None e h = absurd h
view_there Fb g i None e h = absurd (true≢false e)
view_there B g i None e h = absurd h

-- an index that is ready has each view, where none is computed on demand
pub all_there : (m : Meaning) (g : Graph) → is_kind m.kind Fb ≡ false → IsReady m g → IsRefreshed m m g
all_there m g e ready = record {
  keeps = record { kind = refl; count = refl; kept = λ i v h. h };
  ready = ready;
  computed = λ i w. view_there m.kind g i (view_at m.views i) e (ready.fits.each i w);
}
