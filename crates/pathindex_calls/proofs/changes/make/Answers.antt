use Rattle.pathindex_calls.proofs.changes.make.Goals as goal

pub returns : goal.returns
returns c = record {
  answer = c.update.result;
  reply_is = c.of_update.ensures;
  refused = c.update.ensures.refused;
  made = c.update.ensures.made;
  same = c.update.ensures.same;
  err = c.update.ensures.err;
  names = c.update.ensures.names;
  keeps = c.update.ensures.found;
}
