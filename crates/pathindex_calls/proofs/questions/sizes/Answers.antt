use Rattle.std.proofs.Common.{◌≡◌, length, subst}
use Rattle.pathindex_calls.specs.Replies.{of_sizes}
use Rattle.pathindex_calls.proofs.questions.sizes.Goals as goal

pub returns : goal.returns
returns c = record {
  answer = c.sizes.result;
  reply_is = subst (λ found. c.of_sizes.result ≡ of_sizes c.sizes.result (length found)) c.text.ensures c.of_sizes.ensures;
  measured = c.sizes.ensures.measured;
  keeps = c.sizes.ensures.keeps;
  names = c.sizes.ensures.names;
  err = c.sizes.ensures.err;
  nodes = c.sizes.ensures.nodes;
  walk = c.sizes.ensures.walk;
}
