use Rattle.std.proofs.Common.{◌∙◌, ap, arith, length, subst, sym}
use Rattle.std.proofs.lemmas.List.{length-map}
use Rattle.graph_steps.specs.StepLists.{step_of, steps_of}
use Rattle.graph_steps.specs.StepLinks.{LeadsTo, IsLast}
use Rattle.graph_steps.specs.declared.links.Ends.{Ends}
use Rattle.graph_steps.proofs.StepLinks.{leads_there, leads_nowhere, last_there, last_none, count_kept}
use Rattle.graph_steps.proofs.links.lead_node.Goals as goal

pub returns-then-last-steps-clause-leads : goal.returns-then-last-steps-clause-leads
returns-then-last-steps-clause-leads c =
    let ss = c.args.steps.now in
    let ls = c.args.links.now.items in
    let ends = c.args.ends.now.entries in
    let n = c.args.n in
    let last = c.noted-last.result.last in
    let len = length-map ss step_of in
    let count = c.requires.count in
    let few = c.requires.few in
    let below = c.if-last-steps.true in
    let is = ap (λ (e : Ends). e.last) c.noted-last.ensures in
    subst (LeadsTo _ (length ss) (steps_of ss) ends ls) (sym c.set_link.ensures.items)
    (leads_there (steps_of ss) ls ends n last (length ss) (omega (arith, count, len)) is
    (last_there (steps_of ss) n last (omega (arith, below, len)) (omega (arith, few, len)) (subst (IsLast n (steps_of ss)) (sym is) (c.requires.noted.last n))))

pub returns-then-last-steps-clause-count : goal.returns-then-last-steps-clause-count
returns-then-last-steps-clause-count c =
    ap length c.set_link.ensures.items ∙ count_kept (steps_of c.args.steps.now) c.args.links.now.items c.noted-last.result.last c.args.n (length c.args.steps.now)

pub returns-else-last-steps-clause-leads : goal.returns-else-last-steps-clause-leads
returns-else-last-steps-clause-leads c =
    let ss = c.args.steps.now in
    let n = c.args.n in
    let last = c.noted-last.result.last in
    let len = length-map ss step_of in
    let above = c.if-last-steps.false in
    let is = ap (λ (e : Ends). e.last) c.noted-last.ensures in
    leads_nowhere (steps_of ss) c.args.links.now.items c.args.ends.now.entries n (length ss)
    (last_none (steps_of ss) n last (omega (arith, above, len)) (subst (IsLast n (steps_of ss)) (sym is) (c.requires.noted.last n)))
