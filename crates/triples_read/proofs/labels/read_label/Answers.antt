use Rattle.std.proofs.Common.{◌∙◌, sym}
use Rattle.triples_read.proofs.LabelParts.{label-found, label-after, label-cut, label-boundary}
use Rattle.triples_read.proofs.labels.read_label.Goals as goal

pub split_at-requires : goal.split_at-requires
split_at-requires c = label-boundary c.args.text.now c.in-Some.after.now c.in-Some-past_prefix.tail.now c.utf8.text c.in-Some.ensures c.in-Some-past_prefix.ensures.found

pub returns-in_default-past_prefix-clause-whole : goal.returns-in_default-past_prefix-clause-whole
returns-in_default-past_prefix-clause-whole c s r label is spelled ends =
    let (v, good, label_is, after) = label-after c.args.text.now c.in-Some.after.now s r label c.in-Some.ensures is spelled in
    c.in_default-past_prefix.ensures.whole v r after good ends

pub returns-clause-found : goal.returns-clause-found
returns-clause-found c cs is =
    label-found c.args.text.now c.in-Some.after.now c.in-Some-past_prefix.tail.now _ _ c.in_ok-copy.field-0 cs c.in-Some.ensures c.in-Some-past_prefix.ensures.found c.split_at.ensures.front c.split_at.ensures.back c.in_ok-copy.ensures is

pub returns-clause-whole : goal.returns-clause-whole
returns-clause-whole c s r label is spelled ends =
    let (v, good, label_is, after) = label-after c.args.text.now c.in-Some.after.now s r label c.in-Some.ensures is spelled in
    let tail = c.in-Some-past_prefix.ensures.whole v r after good ends in
    let cut = label-cut c.in-Some.after.now v r c.in-Some-past_prefix.tail.now _ _ after tail c.split_at.ensures.front c.split_at.ensures.back in
    (c.in_ok-copy.ensures ∙ cut.0 ∙ sym label_is, cut.1)
