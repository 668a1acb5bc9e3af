use Rattle.std.proofs.Common.{◌∙◌, sym, subst, ap, arith}
use Rattle.std.specs.Prelude.{nat_lt}
use Rattle.std.proofs.lemmas.Bool.{lt-leb}
use Rattle.std.proofs.lemmas.List.{length-map}
use Rattle.graph_steps.specs.StepLists.{step_of, steps_of}
use Rattle.graph_steps.specs.StepLinks.{IsTaken}
use Rattle.graph_steps.specs.declared.links.Ends.{Ends}
use Rattle.graph_steps.proofs.FirstTakes.{taken_behind, taken_earlier}
use Rattle.graph_steps.proofs.links.drops_from.Goals as goal

pub returns-then-from-taken : goal.returns-then-from-taken
returns-then-from-taken c =
    let ss = c.args.steps.now in
    let place = c.noted-taken.result.taken in
    let len = length-map ss step_of in
    let more = c.if-steps-le1.false in
    let is = ap (λ (e : Ends). e.taken) c.noted-taken.ensures in
    let noted = c.requires.ends.each (omega (arith, len, more)) in
    ap (nat_lt place) (sym len)
    ∙ taken_behind (steps_of ss) c.args.from place c.args.n (omega (arith, len)) c.requires.last (subst (IsTaken c.args.n (steps_of ss)) (sym is) (noted.taken c.args.n))
    c.if-from-taken.true

pub returns-else-from-taken : goal.returns-else-from-taken
returns-else-from-taken c =
    let ss = c.args.steps.now in
    let place = c.noted-taken.result.taken in
    let len = length-map ss step_of in
    let more = c.if-steps-le1.false in
    let is = ap (λ (e : Ends). e.taken) c.noted-taken.ensures in
    let noted = c.requires.ends.each (omega (arith, len, more)) in
    lt-leb c.args.from place c.if-from-taken.false
    ∙ sym (taken_earlier (steps_of ss) c.args.from place c.args.n (omega (arith, len)) c.requires.last (subst (IsTaken c.args.n (steps_of ss)) (sym is) (noted.taken c.args.n))
    c.if-from-taken.false)
