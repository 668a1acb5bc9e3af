use Rattle.std.proofs.Common.{◌∙◌, ap, sym, ◌++◌, ◌∷◌, []}
use Rattle.change_spec.specs.Steps.{relabel}
use Rattle.graph_update.specs.declared.staging.Plan.TheVariants.{Relabel}
use Rattle.graph_update.proofs.StagedSteps.{staged_relabel, staged_idle}
use Rattle.graph_update.proofs.staging.stage_relabel.Goals as goal

pub has_label-requires-clause-live : goal.has_label-requires-clause-live
has_label-requires-clause-live c = c.requires.can

pub returns-then-has_label-clause-staged : goal.returns-then-has_label-clause-staged
returns-then-has_label-clause-staged c =
    staged_idle c.args.prefix.now (relabel c.args.node c.args.label.now) c.args.graph.now c.args.plans.now.items (sym c.has_label.ensures ∙ c.if-has_label.true) c.requires.staged

pub returns-clause-staged : goal.returns-clause-staged
returns-clause-staged c =
    staged_relabel c.args.prefix.now c.args.node c.args.label.now c.args.graph.now c.reserve_label.new.self c.args.plans.now.items c.push.new.self.items
    c.reserve_label.ensures.graph c.in_ok-reserve_label.ensures.ok
    (c.in_ok-push.ensures.ok ∙ ap (λ t. c.args.plans.now.items ++ Relabel c.args.node t ∷ []) c.in_ok-copy.ensures)
    (sym c.has_label.ensures ∙ c.if-has_label.false) c.requires.staged
