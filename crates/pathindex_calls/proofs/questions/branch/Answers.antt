use Rattle.std.proofs.Common.{◌≡◌, length, subst}
use Rattle.pathindex_calls.specs.Replies.{of_answer}
use Rattle.pathindex_calls.proofs.questions.branch.Goals as goal

pub returns : goal.returns
returns c = record {
  answer = c.branch-session.result;
  reply_is = subst (λ found. c.of_answer.result ≡ of_answer c.branch-session.result (length found)) c.nodes.ensures c.of_answer.ensures;
  answers = c.branch-session.ensures.answers;
  keeps = c.branch-session.ensures.keeps;
  names = c.branch-session.ensures.names;
  err = c.branch-session.ensures.err;
  walk = c.branch-session.ensures.walk;
  text = c.branch-session.ensures.text;
}
