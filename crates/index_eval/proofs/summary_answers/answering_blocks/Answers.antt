use Rattle.std.proofs.Common.{subst}
use Rattle.std.specs.Prelude.{IfOk}
use Rattle.graph_spec.specs.Shapes.{Shape}
use Rattle.px_base.specs.BitSets.{BitSet}
use Rattle.branch_query.specs.Queries.{query_of, relaxed, AreQueryAnswers}
use Rattle.index_eval.proofs.summary_answers.answering_blocks.Goals as goal

pub returns-then-unrelaxed : goal.returns-then-unrelaxed
returns-then-unrelaxed c =
    let shape = c.blocks-known.ensures.shape c.args.labels.now.texts in
    rw c.if-unrelaxed.true (subst (λ (s : Shape). IfOk c.answers.result (λ (b : BitSet). AreQueryAnswers s (query_of c.args.q.now) b.members)) shape c.answers.ensures.answers)

pub returns-else-unrelaxed : goal.returns-else-unrelaxed
returns-else-unrelaxed c =
    let shape = c.blocks-known.ensures.shape c.args.labels.now.texts in
    rw c.if-unrelaxed.false (subst (λ (s : Shape). IfOk c.relaxed_answers.result (λ (b : BitSet). AreQueryAnswers s (relaxed (query_of c.args.q.now)) b.members)) shape c.relaxed_answers.ensures.answers)
