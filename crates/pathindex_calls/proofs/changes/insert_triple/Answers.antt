use Rattle.pathindex_calls.proofs.changes.insert_triple.Goals as goal

pub returns : goal.returns
returns c = record {
  answer = c.insert.result;
  reply_is = c.of_update.ensures;
  edited = c.insert.ensures.edited;
  names = c.insert.ensures.names;
  err_names = c.insert.ensures.err;
  keeps = c.insert.ensures.found;
}
