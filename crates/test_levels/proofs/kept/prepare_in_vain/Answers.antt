use Rattle.std.proofs.Common.{List, sym, subst, refl}
use Rattle.graph_spec.specs.Graphs.{Graph}
use Rattle.change_spec.specs.Steps.{Step}
use Rattle.bisim_spec.specs.Fits.{Fits}
use Rattle.index_api.specs.Meanings.{Meaning, IsReady, IsPrepared, unstaged}
use Rattle.test_levels.proofs.kept.prepare_in_vain.Goals as goal

still_ready : (m m2 : Meaning) (g : Graph) (c : List Step) → IsReady m g → IsPrepared m m2 c g → IsReady (unstaged m2) g
still_ready m m2 g c ready p = record {
  fits = subst (λ k. Fits k m2.views g) (sym p.kind) (subst (λ v. Fits m.kind v g) (sym p.views) ready.fits);
  unstaged = refl;
}

pub returns : goal.returns
returns g c = subst (λ (m : Meaning). IsReady m c.args.graph.now.graph) (sym c.cancel.ensures) (still_ready _ _ _ _ c.requires.ready c.in_ok-prepare.ensures)
