use Rattle.std.proofs.Common.{◌∙◌, sym}
use Rattle.triples_read.proofs.LabelEnds.{prefix-none, prefix-other, prefix-found, prefix-whole}
use Rattle.triples_read.proofs.labels.past_prefix.Goals as goal

pub returns-in_default-clause-whole : goal.returns-in_default-clause-whole
returns-in_default-clause-whole c = prefix-none c.args.text.now c.in_default.ensures

pub returns-then-not-is_label_first-clause-whole : goal.returns-then-not-is_label_first-clause-whole
returns-then-not-is_label_first-clause-whole c = prefix-other c.args.text.now c.in-Some.after.now c.in-Some.first c.in-Some.ensures (sym c.is_label_first.ensures ∙ c.if-not-is_label_first.true)

pub returns-clause-found : goal.returns-clause-found
returns-clause-found c = prefix-found c.args.text.now c.in-Some.after.now c.after_label.result.now c.in-Some.first c.utf8.text c.in-Some.ensures (sym c.is_label_first.ensures ∙ c.if-not-is_label_first.false) c.after_label.ensures

pub returns-clause-whole : goal.returns-clause-whole
returns-clause-whole c v tail is label over = (prefix-whole c.args.text.now c.in-Some.after.now c.after_label.result.now c.in-Some.first c.in-Some.ensures c.after_label.ensures v tail is label over).1
