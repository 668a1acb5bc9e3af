use Rattle.std.proofs.Common.{◌∙◌, sym}
use Rattle.std.proofs.lemmas.Str.{IsUtf8-past_char}
use Rattle.triples_read.proofs.LabelEnds.{so-far-pn, so-far-dot, so-far-end, so-far-over, shorter}
use Rattle.triples_read.proofs.labels.after_label.Goals as goal

pub returns-then-c-ne46 : goal.returns-then-c-ne46
returns-then-c-ne46 c =
    so-far-end c.args.text.now c.loop-c.tail.now c.loop-c.rest.now c.in-Some.after.now c.in-Some.c c.loop-c.invariant.2 c.in-Some.ensures (sym c.is_label_char.ensures ∙ c.if-is_label_char.false) c.if-c-ne46.true

pub loop-c-smaller-then-is_label_char : goal.loop-c-smaller-then-is_label_char
loop-c-smaller-then-is_label_char c = shorter c.loop-c.rest.now c.in-Some.after.now c.in-Some.c c.in-Some.ensures

pub loop-c-preserved-then-is_label_char : goal.loop-c-preserved-then-is_label_char
loop-c-preserved-then-is_label_char c =
    let text = IsUtf8-past_char c.loop-c.rest.now c.in-Some.after.now c.in-Some.c c.loop-c.invariant.1 c.in-Some.ensures in
    (text, text, so-far-pn c.args.text.now c.loop-c.tail.now c.loop-c.rest.now c.in-Some.after.now c.in-Some.c c.loop-c.invariant.2 c.in-Some.ensures (sym c.is_label_char.ensures ∙ c.if-is_label_char.true))

pub loop-c-preserved : goal.loop-c-preserved
loop-c-preserved c =
    let text = IsUtf8-past_char c.loop-c.rest.now c.in-Some.after.now c.in-Some.c c.loop-c.invariant.1 c.in-Some.ensures in
    (c.loop-c.invariant.0, text, so-far-dot c.args.text.now c.loop-c.tail.now c.loop-c.rest.now c.in-Some.after.now c.in-Some.c c.loop-c.invariant.2 c.in-Some.ensures (sym c.is_label_char.ensures ∙ c.if-is_label_char.false) c.if-c-ne46.false)

pub returns : goal.returns
returns c = so-far-over c.args.text.now c.loop-c.tail.now c.loop-c.rest.now c.loop-c.invariant.2 c.in_default.ensures
