use Rattle.std.proofs.Common.{◌∙◌, sym, subst, ap, arith}
use Rattle.std.proofs.lemmas.List.{length-map}
use Rattle.change_spec.specs.Named.{is_dropped}
use Rattle.graph_steps.specs.StepLists.{step_of, steps_of}
use Rattle.graph_steps.specs.StepLinks.{IsTaken}
use Rattle.graph_steps.specs.declared.links.Ends.{Ends}
use Rattle.graph_steps.proofs.NamedParts.{mapped_take}
use Rattle.graph_steps.proofs.FirstTakes.{taken_before}
use Rattle.graph_steps.proofs.links.drops_before.Goals as goal

pub returns-then-steps-le1 : goal.returns-then-steps-le1
returns-then-steps-le1 c = c.is_dropped.ensures ∙ ap (λ k. is_dropped k c.args.n) (mapped_take c.args.past c.args.steps.now)

pub returns : goal.returns
returns c =
    let ss = c.args.steps.now in
    let n = c.args.n in
    let len = length-map ss step_of in
    let more = c.if-steps-le1.false in
    let fits = c.ranges.past.fits in
    let is = ap (λ (e : Ends). e.taken) c.noted-taken.ensures in
    let noted = c.requires.ends.each (omega (arith, len, more)) in
    taken_before (steps_of ss) c.args.past c.noted-taken.result.taken n (omega (arith, fits)) (subst (IsTaken n (steps_of ss)) (sym is) (noted.taken n))
