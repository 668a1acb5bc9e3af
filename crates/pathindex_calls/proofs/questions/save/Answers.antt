use Rattle.std.proofs.Common.{◌≡◌, length, subst}
use Rattle.pathindex_calls.specs.Replies.{of_sizes}
use Rattle.pathindex_calls.proofs.questions.save.Goals as goal

pub returns : goal.returns
returns c = record {
  answer = c.save.result;
  reply_is = subst (λ found. c.of_sizes.result ≡ of_sizes c.save.result (length found)) c.text.ensures c.of_sizes.ensures;
  saved = c.save.ensures.saved;
  whole = c.save.ensures.whole;
  keeps = c.save.ensures.keeps;
  names = c.save.ensures.names;
  err = c.save.ensures.err;
  nodes = c.save.ensures.nodes;
  walk = c.save.ensures.walk;
}
