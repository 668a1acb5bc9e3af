use Rattle.pathindex_calls.proofs.questions.forget.Goals as goal

pub returns : goal.returns
returns c = record {
  answer = c.forget.result;
  reply_is = c.of_forget.ensures;
  forgotten = c.forget.ensures.forgotten;
  no_index = c.forget.ensures.no_index;
  no_other = c.forget.ensures.no_other;
  names = c.forget.ensures.names;
  keeps = c.forget.ensures.found;
}
