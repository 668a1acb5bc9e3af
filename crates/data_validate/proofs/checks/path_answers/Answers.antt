use Rattle.std.proofs.Common.{subst, IfSome}
use Rattle.std.proofs.lemmas.Result.{IfOk-weaker}
use Rattle.px_base.specs.BitSets.{BitSet}
use Rattle.graph_spec.specs.Members.{has}
use Rattle.graph_spec.specs.Shapes.{shape_by}
use Rattle.path_spec.specs.PathAnswers.{AreAnswers}
use Rattle.path_spec.specs.PartialGraphs.{part_of}
use Rattle.data_validate.specs.Ancestors.{AreAncestors}
use Rattle.data_validate.proofs.BackwardWalks.{near_sound, near_complete}
use Rattle.data_validate.proofs.checks.path_answers.Goals as goal

pub returns-in-Some-clause-sound : goal.returns-in-Some-clause-sound
returns-in-Some-clause-sound g c =
    let span = g.G.Digraph.span c.args.g.now in
    let label_at = g.G.Digraph.label_at c.args.g.now in
    let edge = g.G.Digraph.edge c.args.g.now in
    let texts = c.args.labels.now.texts in
    let near = c.in-Some.near.members in
    IfOk-weaker c.eval_within.result (λ b. AreAnswers (part_of (has near) (shape_by texts span label_at edge)) c.args.expr.now b.members) _
    (λ b h. near_sound texts span label_at edge c.args.expr.now c.most_edges.result c.args.set.now.members near b.members h) c.eval_within.ensures.answers

pub returns-in-Some-clause-complete : goal.returns-in-Some-clause-complete
returns-in-Some-clause-complete g c =
    let span = g.G.Digraph.span c.args.g.now in
    let label_at = g.G.Digraph.label_at c.args.g.now in
    let edge = g.G.Digraph.edge c.args.g.now in
    let texts = c.args.labels.now.texts in
    let set = c.args.set.now.members in
    let near = c.in-Some.near.members in
    let most = c.most_edges.result in
    let lead : AreAncestors label_at edge most set near = subst (λ o. IfSome o (λ (b : BitSet). AreAncestors label_at edge most set b.members)) c.in-Some.is c.in_ok-near.ensures.leading in
    IfOk-weaker c.eval_within.result (λ b. AreAnswers (part_of (has near) (shape_by texts span label_at edge)) c.args.expr.now b.members) _
    (λ b h. near_complete texts span label_at edge c.args.expr.now most set near b.members h c.most_edges.ensures lead) c.eval_within.ensures.answers
