use Rattle.std.proofs.Common.{◌≡◌, length, subst}
use Rattle.pathindex_calls.specs.Replies.{of_why}
use Rattle.pathindex_calls.proofs.questions.why.Goals as goal

pub returns : goal.returns
returns c = record {
  answer = c.why.result;
  reply_is = subst (λ found. c.of_why.result ≡ of_why c.why.result (length found)) c.walk.ensures c.of_why.ensures;
  explained = c.why.ensures.explained;
  no_walk = c.why.ensures.no_walk;
  err = c.why.ensures.err;
  engine = c.why.ensures.engine;
  names = c.why.ensures.names;
  nodes = c.why.ensures.nodes;
  text = c.why.ensures.text;
}
