use Rattle.quotient.specs.Quotients.{view_of}
use Rattle.branch_query.specs.Queries.{query_of, relaxed}
use Rattle.index_eval.proofs.BlockAnswers.{answering_block}
use Rattle.index_eval.proofs.MemberCounts.{is_candidate_count}
use Rattle.index_eval.proofs.summary_answers.candidate_count.Goals as goal

pub count_members-requires : goal.count_members-requires
count_members-requires c = record {
  live = λ b m. answering_block c.args.labels.now.texts (view_of c.args.summary.now) (relaxed (query_of c.args.q.now)) b (c.in_ok-blocks.ensures.sound b m);
}

pub returns : goal.returns
returns c =
    let blocks = c.in_ok-blocks.ensures in
    is_candidate_count c.args.labels.now.texts (view_of c.args.summary.now) (query_of c.args.q.now) c.in_ok-blocks.blocks.members c.count_members.result blocks.sound blocks.complete
    c.count_members.ensures
