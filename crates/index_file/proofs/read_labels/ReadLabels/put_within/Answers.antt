use Rattle.std.proofs.Common.{arith}
use Rattle.path_query.proofs.PathRoundTrips.{label_again}
use Rattle.index_file.proofs.ReadLabelLaws.{interned_new, too_many}
use Rattle.index_file.proofs.read_labels.ReadLabels.put_within.Goals as goal

pub put-requires-clause-spelled : goal.put-requires-clause-spelled
put-requires-clause-spelled c = label_again c.args.word.now c.args.label c.requires.spells

pub returns-then-len-most-clause-over : goal.returns-then-len-most-clause-over
returns-then-len-most-clause-over c = λ _. record {
  label = c.args.label;
  spelled = c.requires.spells;
  over = too_many c.args.label c.args.most c.args.self.now c.requires.unseen (let many = c.if-len-most.true in let len = c.len.ensures in omega (arith, many, len));
}

pub returns-in-Ok-clause-ok : goal.returns-in-Ok-clause-ok
returns-in-Ok-clause-ok c = record {
  label = c.args.label;
  spelled = c.requires.spells;
  interned = interned_new c.args.label c.args.most c.args.self.now c.put.new.self c.in-Ok.l c.requires.unseen
      (let few = c.if-len-most.false in let len = c.len.ensures in omega (arith, few, len)) c.in-Ok.ensures.ok c.in-Ok.ensures.number;
}
