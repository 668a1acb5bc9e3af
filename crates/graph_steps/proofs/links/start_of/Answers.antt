use Rattle.std.proofs.Common.{◌≡◌, ◌+◌, ◌-◌, ◌∙◌, sym, subst, arith}
use Rattle.graph_steps.specs.StepLists.{steps_of}
use Rattle.graph_steps.specs.StepLinks.{IsAhead, link_at}
use Rattle.graph_steps.proofs.StepLinks.{name_there}
use Rattle.graph_steps.proofs.links.start_of.Goals as goal

pub returns-then-names : goal.returns-then-names
returns-then-names c =
    let ss = c.args.steps.now in
    let n = c.args.n in
    let from = c.args.from in
    let some = c.if-from-gt0.true in
    let within = c.requires.from in
    let here = sym (name_there ss (from - 1) n c.index-steps-from.result (omega (arith, some, within)) c.index-steps-from.is) ∙ sym c.names.ensures ∙ c.if-names.true in
    let same : (from - 1) + 1 ≡ from = omega (arith, some) in
    subst (IsAhead n (steps_of ss) from) (sym c.link_at.ensures)
    (subst (λ k. IsAhead n (steps_of ss) k (link_at (steps_of ss) c.args.links.now (from - 1) n)) same (c.requires.links.next (from - 1) n here).ahead)
