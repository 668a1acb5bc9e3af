use Rattle.std.proofs.Common.{◌∙◌, ap, arith, length}
use Rattle.std.proofs.lemmas.List.{take_all, length-map}
use Rattle.graph_steps.specs.StepLists.{step_of}
use Rattle.graph_steps.proofs.changes.Change.as_prefix.Goals as goal

pub of-requires : goal.of-requires
of-requires c =
    let len = length-map c.self.inside.steps.items step_of in
    let same = ap length c.self.view_is in
    let count = c.len.ensures.value in
    omega (arith, len, same, count)

pub returns : goal.returns
returns c =
    let len = length-map c.self.inside.steps.items step_of in
    let same = ap length c.self.view_is in
    let count = c.len.ensures.value in
    c.of.ensures ∙ take_all c.len.result c.args.self.now (omega (arith, len, same, count))
