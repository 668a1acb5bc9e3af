use Rattle.std.proofs.lemmas.Result.{IfOk-weaker}
use Rattle.bisim_spec.specs.IndexGraphs.{shape_of_view}
use Rattle.quotient.specs.Quotients.{view_of}
use Rattle.branch_query.specs.Queries.{query_of, searched_form, IsQueryAnswer}
use Rattle.index_eval.proofs.BlockAnswers.{answering_block}
use Rattle.index_eval.specs.Candidates.{AreOfAnsweringBlocks, AreCandidatesOfEach, HaveAnswersOfEach, AreAnswersOfEach}
use Rattle.index_eval.proofs.Gathered.{gathered, candidates_of_each, kept_of_each, exact_of_each}
use Rattle.index_eval.proofs.summary_answers.candidates.Goals as goal

pub extents-requires : goal.extents-requires
extents-requires c = record {
  live = λ b m.
      answering_block c.args.labels.now.texts (view_of c.args.summary.now) (searched_form c.args.unrelaxed (query_of c.args.q.now)) b (c.in_ok-blocks.ensures.sound b m);
}

pub returns-clause-members : goal.returns-clause-members
returns-clause-members c =
    let blocks = c.in_ok-blocks.ensures in
    gathered c.args.summary.now.blocks.block_of (IsQueryAnswer (shape_of_view c.args.labels.now.texts (view_of c.args.summary.now)) (searched_form c.args.unrelaxed (query_of c.args.q.now)))
    c.in_ok-blocks.blocks.members blocks.sound blocks.complete c.extents.result c.extents.ensures.rising c.extents.ensures.members

pub returns-clause-candidates : goal.returns-clause-candidates
returns-clause-candidates c =
    let texts = c.args.labels.now.texts in
    let v = view_of c.args.summary.now in
    let q = query_of c.args.q.now in
    let unrelaxed = c.args.unrelaxed in
    IfOk-weaker c.extents.result (λ b. AreOfAnsweringBlocks texts v q unrelaxed b.members) (λ b. AreCandidatesOfEach texts v q unrelaxed b.members) (candidates_of_each texts v q unrelaxed) (returns-clause-members c)

pub returns-clause-kept : goal.returns-clause-kept
returns-clause-kept c =
    let texts = c.args.labels.now.texts in
    let v = view_of c.args.summary.now in
    let q = query_of c.args.q.now in
    let unrelaxed = c.args.unrelaxed in
    IfOk-weaker c.extents.result (λ b. AreOfAnsweringBlocks texts v q unrelaxed b.members) (λ b. HaveAnswersOfEach texts v q unrelaxed b.members) (kept_of_each texts v q unrelaxed) (returns-clause-members c)

pub returns-clause-exact : goal.returns-clause-exact
returns-clause-exact c =
    let texts = c.args.labels.now.texts in
    let v = view_of c.args.summary.now in
    let q = query_of c.args.q.now in
    let unrelaxed = c.args.unrelaxed in
    IfOk-weaker c.extents.result (λ b. AreOfAnsweringBlocks texts v q unrelaxed b.members) (λ b. AreAnswersOfEach texts v q unrelaxed b.members) (exact_of_each texts v q unrelaxed) (returns-clause-members c)
