use Rattle.std.proofs.Common.{◌≡◌, false, Err, subst, rules}
use Rattle.std.specs.Prelude.{◌↔◌}
use Rattle.index_api.specs.IndexKinds.{is_kept}
use Rattle.pathindex_core.specs.declared.errors.AskError.TheVariants.{NoIndex}
use Rattle.pathindex_core.specs.Engines.{opened_by}
use Rattle.pathindex_core.proofs.Refreshed.{kept_again, kept_same}
use Rattle.pathindex_core.proofs.views.ready.Goals as goal

pub find_view-requires-clause-kept : goal.find_view-requires-clause-kept
find_view-requires-clause-kept g c = kept_again (opened_by c.args.state.now) _ _ c.requires.kept c.refresh_for.ensures.keeps c.refresh_for.ensures.ready

pub returns-in-Ok-clause-kept : goal.returns-in-Ok-clause-kept
returns-in-Ok-clause-kept g c = kept_again (opened_by c.args.state.now) _ _ c.requires.kept c.refresh_for.ensures.keeps c.refresh_for.ensures.ready

pub returns-in-Ok-clause-readied : goal.returns-in-Ok-clause-readied
returns-in-Ok-clause-readied g c =
    let same = kept_same (opened_by c.args.state.now) _ _ c.args.state.now.k c.requires.kept c.refresh_for.ensures.keeps in
    let no_index = subst (λ kept. (c.find_view.result ≡ Err NoIndex) ↔ (is_kept kept c.args.via ≡ false)) same c.find_view.ensures.no_index in
    search rules

pub returns-in-Err-clause-kept : goal.returns-in-Err-clause-kept
returns-in-Err-clause-kept g c = kept_again (opened_by c.args.state.now) _ _ c.requires.kept c.refresh_for.ensures.keeps c.refresh_for.ensures.ready
