use Rattle.std.proofs.Common.{◌∙◌, ap}
use Rattle.std.specs.Prelude.{slice_set}
use Rattle.graph_steps.proofs.StepLinks.{set_there}
use Rattle.graph_steps.proofs.links.set_link.Goals as goal

pub returns-in-Some-clause-items : goal.returns-in-Some-clause-items
returns-in-Some-clause-items c =
    let ls = c.args.links.now.items in
    ap (slice_set ls c.args.i) c.with_next.ensures
    ∙ set_there c.args.steps.now ls c.args.i c.args.n c.args.next c.index-steps-i.result c.in-Some.there.now c.requires.steps c.requires.links c.index-steps-i.is c.in-Some.ensures.value
