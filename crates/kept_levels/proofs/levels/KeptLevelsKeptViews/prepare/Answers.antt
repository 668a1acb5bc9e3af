use Rattle.std.proofs.Common.{rules, ◌≡◌, ◌+◌, ◌≤◌, None, length, sym, ap, ◌∙◌, subst}
use Rattle.ak_family.specs.LevelDrafts.{AreSeenAs}
use Rattle.bisim_spec.specs.declared.sides.Sides.{Sides}
use Rattle.change_spec.specs.Steps.{after}
use Rattle.level_update.specs.FamilyDrafts.{FamilyFits, ShownFit, most_steps}
use Rattle.kept_levels.specs.KeptFamilies.{KeptFamily}
use Rattle.kept_levels.proofs.Staged.{ready_kept, kept_total, prepared, kept_meaning}
use Rattle.kept_levels.proofs.levels.KeptLevelsKeptViews.prepare.Goals as goal

pub drafted_with_reserved-requires-clause-fits : goal.drafted_with_reserved-requires-clause-fits
drafted_with_reserved-requires-clause-fits g c =
    subst (λ (which : Sides). FamilyFits which c.args.graph.now.graph c.self.inside.family) (sym c.sides-sides.ensures)
    (subst (λ (k : KeptFamily). FamilyFits g.S.CountedSides.counted c.args.graph.now.graph k.base) (sym c.self.view_is)
    (ready_kept g.S.CountedSides.counted c.args.self.now c.args.graph.now.graph c.requires.ready).fits)

pub returns-in_err-draft-clause-err : goal.returns-in_err-draft-clause-err
returns-in_err-draft-clause-err g c =
    let family = c.drafted_with_reserved.new.family in
    let same = subst (λ (k : KeptFamily). AreSeenAs k.base family) c.self.view_is c.drafted_with_reserved.ensures.same in
    let none : c.self.inside.staged ≡ None =
    ap (λ (k : KeptFamily). k.staged) c.self.view_is ∙ (ready_kept g.S.CountedSides.counted c.args.self.now c.args.graph.now.graph c.requires.ready).unstaged in
    let kept = kept_meaning g.S.CountedSides.counted c.args.self.now (record { base = family; staged = c.self.inside.staged }) c.args.graph.now.graph c.requires.ready same none in
    search rules

pub returns-in_err-draft-clause-cost : goal.returns-in_err-draft-clause-cost
returns-in_err-draft-clause-cost g c = λ k e.
    subst (λ (which : Sides). c.drafted_with_reserved.new.steps ≤ c.args.steps.now + most_steps which c.args.graph.now.graph c.args.change.now k) c.sides-sides.ensures
    (c.drafted_with_reserved.ensures.cost k (ap (λ (x : KeptFamily). length x.base) c.self.view_is ∙ kept_total c.args.self.now (k + 1) e))

pub returns-clause-staged : goal.returns-clause-staged
returns-clause-staged g c =
    let family = c.drafted_with_reserved.new.family in
    let same = subst (λ (k : KeptFamily). AreSeenAs k.base family) c.self.view_is c.drafted_with_reserved.ensures.same in
    prepared g.S.CountedSides.counted c.args.self.now family c.in_ok-draft.draft c.args.graph.now.graph c.args.change.now c.requires.ready same
    (subst (λ (which : Sides). ShownFit which (after c.args.change.now c.args.graph.now.graph) family c.in_ok-draft.draft) c.sides-sides.ensures c.in_ok-draft.ensures.fits)

pub returns-clause-cost : goal.returns-clause-cost
returns-clause-cost g c = λ k e.
    subst (λ (which : Sides). c.drafted_with_reserved.new.steps ≤ c.args.steps.now + most_steps which c.args.graph.now.graph c.args.change.now k) c.sides-sides.ensures
    (c.drafted_with_reserved.ensures.cost k (ap (λ (x : KeptFamily). length x.base) c.self.view_is ∙ kept_total c.args.self.now (k + 1) e))
