use Rattle.std.proofs.Common.{ℕ, zero, suc, ◌<◌, [], ◌∷◌, None, refl, arith}
use Rattle.graph_spec.specs.Graphs.{Graph}
use Rattle.bisim_spec.specs.declared.kind.Kind.TheVariants.{Fb}
use Rattle.bisim_spec.specs.Fits.{FitsAt, view_at}
use Rattle.test_engine.proofs.failing_index.FailingIndexPathIndex.build.Goals as goal

not_computed : (g : Graph) (i : ℕ) → i < 1 → FitsAt Fb g i (view_at (None ∷ []) i)
not_computed g zero h = tt
not_computed g (suc i) h = absurd (omega (arith, h))

pub returns-clause-built : goal.returns-clause-built
returns-clause-built c = record {
  kind = refl;
  ready = record { fits = record { count = refl; each = not_computed _ }; unstaged = refl };
  count = refl;
  full = tt;
}
