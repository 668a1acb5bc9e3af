use Rattle.std.proofs.Common.{ap, ◌∙◌, arith}
use Rattle.index_file.specs.declared.due.Due.TheVariants.{EdgesLeft}
use Rattle.index_file.specs.Readings.{Reading}
use Rattle.index_file.proofs.StepLaws.{wrong_edge_count}
use Rattle.index_file.proofs.DraftLaws.{edge_count_taken, edge_count_over, draft_edge_count}
use Rattle.index_file.proofs.draft.Draft.take_edge_count.Goals as goal

pub returns-in_default-clause-wrong : goal.returns-in_default-clause-wrong
returns-in_default-clause-wrong c = λ _. wrong_edge_count c.args.limits.now c.args.line.now c.args.self.now c.requires.due c.in_default.ensures.none

pub returns-in_default-count_within-clause-over : goal.returns-in_default-count_within-clause-over
returns-in_default-count_within-clause-over c = λ _.
    edge_count_over c.args.limits.now c.args.line.now c.args.self.now c.requires.due c.in-Some.count c.in-Some.ensures.found c.in_default-count_within.ensures.none

pub returns-clause-taken : goal.returns-clause-taken
returns-clause-taken c =
    let s = c.self.inside in
    let m = c.in-Some-count_within.ensures.found in
    edge_count_taken c.args.limits.now c.args.line.now c.args.self.now c.requires.due c.in-Some.count c.in-Some.ensures.found _ m.1 m.2
    (ap (λ n. record { due = EdgesLeft n; k = s.k; allocated = s.nodes; pairs = s.pairs.items; views = s.views }) m.0
    ∙ ap (λ (r : Reading). record r { due = EdgesLeft c.in-Some.count }) c.self.view_is)

pub invariant_of-self : goal.invariant_of-self
invariant_of-self c =
    let m = c.in-Some-count_within.ensures.found in
    draft_edge_count _ c.self.invariant _ (ap (λ (r : Reading). r.due) c.self.view_is ∙ c.requires.due) (let e = m.0 in let few = m.2 in omega (arith, e, few))
