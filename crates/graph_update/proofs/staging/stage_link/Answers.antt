use Rattle.std.proofs.Common.{◌∙◌, sym}
use Rattle.change_spec.specs.Steps.{link}
use Rattle.graph_steps.proofs.NamedParts.{live_stays}
use Rattle.graph_update.proofs.StagedSteps.{staged_link, staged_idle, joinable}
use Rattle.graph_update.proofs.staging.stage_link.Goals as goal

pub has_edge-requires-clause-from : goal.has_edge-requires-clause-from
has_edge-requires-clause-from c = live_stays c.args.prefix.now c.args.graph.now.graph c.args.from c.requires.prefix c.requires.can.0

pub has_edge-requires-clause-onto : goal.has_edge-requires-clause-onto
has_edge-requires-clause-onto c = live_stays c.args.prefix.now c.args.graph.now.graph c.args.to c.requires.prefix c.requires.can.1

pub reserve_edge-requires-clause-from : goal.reserve_edge-requires-clause-from
reserve_edge-requires-clause-from c =
    joinable c.args.prefix.now c.args.graph.now c.args.plans.now.items c.args.from c.requires.prefix c.requires.staged c.requires.can.0

pub reserve_edge-requires-clause-onto : goal.reserve_edge-requires-clause-onto
reserve_edge-requires-clause-onto c =
    joinable c.args.prefix.now c.args.graph.now c.args.plans.now.items c.args.to c.requires.prefix c.requires.staged c.requires.can.1

pub returns-then-has_edge-clause-staged : goal.returns-then-has_edge-clause-staged
returns-then-has_edge-clause-staged c =
    staged_idle c.args.prefix.now (link c.args.from c.args.to) c.args.graph.now c.args.plans.now.items (sym c.has_edge.ensures ∙ c.if-has_edge.true) c.requires.staged

pub returns-clause-staged : goal.returns-clause-staged
returns-clause-staged c =
    staged_link c.args.prefix.now c.args.from c.args.to c.args.graph.now c.reserve_edge.new.self c.args.plans.now.items c.push.new.self.items
    c.reserve_edge.ensures.graph c.in_ok-reserve_edge.ensures.ok c.in_ok-push.ensures.ok (sym c.has_edge.ensures ∙ c.if-has_edge.false) c.requires.staged
