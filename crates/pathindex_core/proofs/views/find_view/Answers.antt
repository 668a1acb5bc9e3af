use Rattle.std.proofs.Common.{sym, refl, subst, IsSome}
use Rattle.pathindex_core.specs.Engines.{opened_by}
use Rattle.pathindex_core.proofs.Asked.{answered}
use Rattle.pathindex_core.proofs.ShownViews.{view_there, view_absent}
use Rattle.pathindex_core.proofs.views.find_view.Goals as goal

pub returns-in-Some-clause-there : goal.returns-in-Some-clause-there
returns-in-Some-clause-there g c = subst IsSome c.in-Some.ensures refl

pub returns-in-Some-clause-no_index : goal.returns-in-Some-clause-no_index
returns-in-Some-clause-no_index g c =
    let there = view_there (opened_by c.args.state.now) _ c.requires.kept c.args.via _ c.requires.computed c.in-Some.ensures in
    answered _ _ there.kept_is

pub returns-in-None-clause-no_index : goal.returns-in-None-clause-no_index
returns-in-None-clause-no_index g c = (λ e. view_absent (opened_by c.args.state.now) _ c.requires.kept c.args.via c.requires.computed c.in-None.ensures, λ e. refl)
