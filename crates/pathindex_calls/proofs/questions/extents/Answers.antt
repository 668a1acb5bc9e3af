use Rattle.std.proofs.Common.{◌≡◌, length, subst}
use Rattle.pathindex_calls.specs.Replies.{of_list}
use Rattle.pathindex_calls.proofs.questions.extents.Goals as goal

pub returns : goal.returns
returns c = record {
  answer = c.extents.result;
  reply_is = subst (λ found. c.of_list.result ≡ of_list c.extents.result (length found)) c.text.ensures c.of_list.ensures;
  listed = c.extents.ensures.listed;
  no_index = c.extents.ensures.no_index;
  keeps = c.extents.ensures.keeps;
  names = c.extents.ensures.names;
  err = c.extents.ensures.err;
  nodes = c.extents.ensures.nodes;
  walk = c.extents.ensures.walk;
}
