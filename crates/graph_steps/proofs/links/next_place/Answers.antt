use Rattle.std.proofs.Common.{arith}
use Rattle.std.proofs.lemmas.List.{length-map}
use Rattle.graph_steps.specs.StepLists.{step_of, steps_of}
use Rattle.graph_steps.proofs.StepLinks.{next_cut}
use Rattle.graph_steps.proofs.links.next_place.Goals as goal

pub returns : goal.returns
returns c =
    let ss = c.args.steps.now in
    let len = length-map ss step_of in
    let is = c.min.ensures in
    let from = c.requires.from in
    next_cut (steps_of ss) c.args.n c.args.from c.along.result c.min.result (omega (arith, len)) (omega (arith, from, len)) (omega (arith, is, len)) c.along.ensures
