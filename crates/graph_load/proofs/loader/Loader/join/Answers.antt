use Rattle.std.proofs.Common.{rules}
use Rattle.std.specs.Prelude.{IsErrOf}
use Rattle.change_spec.specs.Steps.{link}
use Rattle.graph_load.specs.declared.limited_changes.Stop.TheVariants.{Limit}
use Rattle.graph_load.specs.TripleGraphs.{need, changed}
use Rattle.graph_load.specs.Loaders.{IsStopped}
use Rattle.graph_load.proofs.EdgeSteps.{linked_stopped, linked_stopped_first, linked_stopped_second, linked_steps}
use Rattle.graph_load.proofs.loader.Loader.join.Goals as goal

pub returns-in_err-onto-clause-limit : goal.returns-in_err-onto-clause-limit
returns-in_err-onto-clause-limit c =
    let stopped : IsErrOf c.from_residual.result Limit → IsStopped (need c.args.limits.now c.args.object.now) c.args.self.now = search rules in
    λ e x is. linked_stopped c.args.limits.now x c.args.node c.args.object.now c.args.self.now (stopped e)

pub returns-in_err-link-clause-limit : goal.returns-in_err-link-clause-limit
returns-in_err-link-clause-limit c =
    let stopped : IsErrOf c.from_residual-in_err-link.result Limit → IsStopped (changed c.args.limits.now (link c.args.from c.args.node)) c.need.new.self = search rules in
    λ e x is. linked_stopped_first c.args.limits.now x c.args.node c.args.object.now c.args.self.now c.need.new.self c.args.from c.in_ok-onto.onto.number is c.in_ok-onto.ensures.steps c.in_ok-onto.ensures.number (stopped e)

pub returns-in_err-link-2-clause-limit : goal.returns-in_err-link-2-clause-limit
returns-in_err-link-2-clause-limit c =
    let stopped : IsErrOf c.from_residual-in_err-link-2.result Limit → IsStopped (changed c.args.limits.now (link c.args.node c.in_ok-onto.onto.number)) c.link.new.self = search rules in
    λ e x is. linked_stopped_second c.args.limits.now x c.args.node c.args.object.now c.args.self.now c.need.new.self c.args.from c.in_ok-onto.onto.number is c.in_ok-onto.ensures.steps c.in_ok-onto.ensures.number
    c.link.new.self c.in_ok-link.ensures.steps (stopped e)

pub returns-clause-steps : goal.returns-clause-steps
returns-clause-steps c = λ x is.
    linked_steps c.args.limits.now x c.args.node c.args.object.now c.args.self.now c.need.new.self c.args.from c.in_ok-onto.onto.number is c.in_ok-onto.ensures.steps c.in_ok-onto.ensures.number
    c.link.new.self c.in_ok-link.ensures.steps c.link-2.new.self c.in_ok-link-2.ensures.steps
