-- A 1-index of a graph as an index that fits.
use Rattle.std.proofs.Common.{ℕ, zero, suc, ◌<◌, arith, refl}
use Rattle.graph_spec.specs.Graphs.{Graph}
use Rattle.bisim_spec.specs.declared.kind.Kind.TheVariants.{One}
use Rattle.bisim_spec.specs.IndexGraphs.{View}
use Rattle.std.proofs.Common.{[], ◌∷◌, Some}
use Rattle.bisim_spec.specs.Fits.{Fits, FitsAt, FitsOne, view_at}

only_view : (g : Graph) (v : View) → FitsOne g v → (i : ℕ) → i < 1 → FitsAt One g i (view_at (Some v ∷ []) i)
only_view g v fits zero h = fits
only_view g v fits (suc i) h = absurd (omega (arith, h))

-- its view is all that there is
pub one_fits : (g : Graph) (v : View) → FitsOne g v → Fits One (Some v ∷ []) g
one_fits g v fits = record { count = refl; each = only_view g v fits }
