use Rattle.std.proofs.Common.{[], ◌∷◌, ◌++◌, ap, ◌∙◌}
use Rattle.index_file.specs.declared.due.Due.TheVariants.{EdgesLeft}
use Rattle.index_file.specs.Readings.{Reading, can_take_edge}
use Rattle.index_file.proofs.StepLaws.{wrong_edge}
use Rattle.index_file.proofs.DraftLaws.{edge_taken, edge_wrong, draft_edge, same_pairs, few_live}
use Rattle.index_file.proofs.draft.Draft.take_edge.Goals as goal

pub returns-in_default-clause-wrong : goal.returns-in_default-clause-wrong
returns-in_default-clause-wrong c = λ _.
    wrong_edge c.args.limits.now c.args.line.now c.args.self.now c.args.left c.requires.due (λ u v h. absurd (c.in_default.ensures.none u v h))

pub returns-in_default-edge_between-clause-wrong : goal.returns-in_default-edge_between-clause-wrong
returns-in_default-edge_between-clause-wrong c = λ _.
    edge_wrong c.args.limits.now c.args.line.now c.args.self.now c.args.left c.requires.due (few_live _ _ c.self.view_is c.self.invariant) (c.in-Some.from, c.in-Some.onto)
    c.in-Some.ensures.found c.in_default-edge_between.ensures.none

pub returns-in-Ok-clause-taken : goal.returns-in-Ok-clause-taken
returns-in-Ok-clause-taken c =
    let s = c.self.inside in
    let e = c.in-Some-edge_between.ensures.found in
    edge_taken c.args.limits.now c.args.line.now c.args.self.now c.args.left c.requires.due (few_live _ _ c.self.view_is c.self.invariant) (c.in-Some.from, c.in-Some.onto)
    c.in-Some.ensures.found _ e.1
    (ap (λ ps. record { due = EdgesLeft c.args.left; k = s.k; allocated = s.nodes; pairs = ps; views = s.views }) c.in-Ok.ensures.ok
    ∙ ap (λ p. record { due = EdgesLeft c.args.left; k = s.k; allocated = s.nodes; pairs = s.pairs.items ++ p ∷ []; views = s.views }) e.0
    ∙ ap (λ (r : Reading). record r { due = EdgesLeft c.args.left; pairs = r.pairs ++ (c.in-Some.from, c.in-Some.onto) ∷ [] }) c.self.view_is)

pub invariant_of-self : goal.invariant_of-self
invariant_of-self c =
    let e = c.in-Some-edge_between.ensures.found in
    draft_edge _ c.self.invariant c.args.left c.in-Some.from c.in-Some.onto _ (ap (λ (r : Reading). r.due) c.self.view_is ∙ c.requires.due)
    (ap (λ (r : Reading). can_take_edge r c.in-Some.from c.in-Some.onto) c.self.view_is ∙ e.1)
    (c.in-Ok.ensures.ok ∙ ap (λ p. c.self.inside.pairs.items ++ p ∷ []) e.0)

pub invariant_of-self-in-Err : goal.invariant_of-self-in-Err
invariant_of-self-in-Err c = same_pairs _ c.self.invariant _ c.in-Err.ensures.err
