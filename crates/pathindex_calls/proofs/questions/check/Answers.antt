use Rattle.pathindex_calls.proofs.questions.check.Goals as goal

pub returns : goal.returns
returns c = record {
  answer = c.check.result;
  reply_is = c.of_check.ensures;
  checked = c.check.ensures;
}
