use Rattle.std.proofs.Common.{ap, ◌∙◌, arith}
use Rattle.index_file.specs.declared.due.Due.TheVariants.{Nodes}
use Rattle.index_file.specs.Readings.{Reading}
use Rattle.index_file.proofs.StepLaws.{wrong_given}
use Rattle.index_file.proofs.DraftLaws.{given_taken, given_over, given_wrong, draft_given}
use Rattle.index_file.proofs.draft.Draft.take_allocated.Goals as goal

pub returns-in_default-clause-wrong : goal.returns-in_default-clause-wrong
returns-in_default-clause-wrong c = λ _.
    wrong_given c.args.limits.now c.args.line.now c.args.self.now c.requires.due (λ n k h. absurd (c.in_default.ensures.none n k h))

pub returns-in_default-count_within-clause-over : goal.returns-in_default-count_within-clause-over
returns-in_default-count_within-clause-over c = λ _.
    given_over c.args.limits.now c.args.line.now c.args.self.now c.requires.due (c.in-Some.count, c.in-Some.level) c.in-Some.ensures.found c.in_default-count_within.ensures.none

pub returns-in_default-count_within-2-clause-wrong : goal.returns-in_default-count_within-2-clause-wrong
returns-in_default-count_within-2-clause-wrong c = λ _.
    let few = c.in-Some-count_within.ensures.found.2 in
    given_wrong c.args.limits.now c.args.line.now c.args.self.now c.requires.due (c.in-Some.count, c.in-Some.level) c.in-Some.ensures.found c.in-Some-count_within.ensures.found.1
    (omega (arith, few)) c.in_default-count_within-2.ensures.none

pub returns-clause-taken : goal.returns-clause-taken
returns-clause-taken c =
    let s = c.self.inside in
    let n = c.in-Some-count_within.ensures.found in
    let k = c.in-Some-count_within-2.ensures.found in
    given_taken c.args.limits.now c.args.line.now c.args.self.now c.requires.due (c.in-Some.count, c.in-Some.level) c.in-Some.ensures.found _ n.1 n.2 k.1
    (ap (λ m. record { due = Nodes m; k = c.in-Some-count_within-2.k; allocated = s.nodes; pairs = s.pairs.items; views = s.views }) n.0
    ∙ ap (λ m. record { due = Nodes c.in-Some.count; k = m; allocated = s.nodes; pairs = s.pairs.items; views = s.views }) k.0
    ∙ ap (λ (r : Reading). record r { due = Nodes c.in-Some.count; k = c.in-Some.level }) c.self.view_is)

pub invariant_of-self : goal.invariant_of-self
invariant_of-self c =
    let n = c.in-Some-count_within.ensures.found in
    let k = c.in-Some-count_within-2.ensures.found in
    draft_given _ c.self.invariant _ _ (ap (λ (r : Reading). r.due) c.self.view_is ∙ c.requires.due)
    (let e = n.0 in let few = n.2 in omega (arith, e, few)) (let e = k.0 in let low = k.1 in omega (arith, e, low))
