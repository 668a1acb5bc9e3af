use Rattle.std.proofs.Common.{◌≡◌, length, subst}
use Rattle.pathindex_calls.specs.Replies.{of_answer}
use Rattle.pathindex_calls.proofs.questions.path.Goals as goal

pub returns : goal.returns
returns c = record {
  answer = c.path.result;
  reply_is = subst (λ found. c.of_answer.result ≡ of_answer c.path.result (length found)) c.nodes.ensures c.of_answer.ensures;
  answers = c.path.ensures.answers;
  keeps = c.path.ensures.keeps;
  names = c.path.ensures.names;
  err = c.path.ensures.err;
  walk = c.path.ensures.walk;
  text = c.path.ensures.text;
}
