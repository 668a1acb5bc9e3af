use Rattle.std.proofs.Common.{◌≡◌, ◌∙◌, sym, subst, arith, true}
use Rattle.std.proofs.lemmas.List.{length-map}
use Rattle.change_spec.specs.Named.{is_named}
use Rattle.graph_steps.specs.StepLists.{step_of, steps_of}
use Rattle.graph_steps.proofs.StepLinks.{named_noted}
use Rattle.graph_steps.proofs.changes.Change.may_name.Goals as goal

pub returns-clause-named : goal.returns-clause-named
returns-clause-named c = λ named.
    let ss = c.self.inside.steps.items in
    let len = length-map ss step_of in
    let count = c.len.ensures.value in
    let fits = c.len.ensures.fits in
    let more = c.if-len-le1.false in
    c.contains_key.ensures
    ∙ named_noted (steps_of ss) c.self.inside.ends.entries c.args.n (omega (arith, len, count, fits)) (c.self.invariant.noted.each (omega (arith, len, count, more)))
    (subst (λ k. is_named k c.args.n ≡ true) (sym c.self.view_is) named)
