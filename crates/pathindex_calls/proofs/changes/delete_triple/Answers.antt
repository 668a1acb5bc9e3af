use Rattle.pathindex_calls.proofs.changes.delete_triple.Goals as goal

pub returns : goal.returns
returns c = record {
  answer = c.delete.result;
  reply_is = c.of_update.ensures;
  edited = c.delete.ensures.edited;
  names = c.delete.ensures.names;
  keeps = c.delete.ensures.found;
}
