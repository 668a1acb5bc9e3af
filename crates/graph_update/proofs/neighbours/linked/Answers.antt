use Rattle.std.proofs.Common.{◌∙◌, sym, refl}
use Rattle.std.specs.Prelude.{None, Some}
use Rattle.graph_steps.specs.StepLists.{step_of}
use Rattle.graph_update.proofs.NamedParts.{comes_there}
use Rattle.graph_update.proofs.neighbours.linked.Goals as goal

pub returns-in-Some : goal.returns-in-Some
returns-in-Some c =
    comes_there c.args.side c.args.change.now c.args.n c.args.i c.args.next (step_of c.step_at.result.now) (Some c.in-Some.m) c.unless_concerned.result
    c.step_at.ensures c.requires.next (sym c.linked_to.ensures ∙ c.in-Some.is) c.unless_concerned.ensures

pub returns-in-None : goal.returns-in-None
returns-in-None c =
    comes_there c.args.side c.args.change.now c.args.n c.args.i c.args.next (step_of c.step_at.result.now) None None
    c.step_at.ensures c.requires.next (sym c.linked_to.ensures ∙ c.in-None.is) refl
