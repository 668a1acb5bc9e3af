use Rattle.std.proofs.Common.{◌∙◌, ap, sym, map}
use Rattle.label_graph.specs.LabelTable.{exchanged}
use Rattle.label_graph.proofs.ShownLabels.{numbers-kept, numbers-moved}
use Rattle.label_graph.proofs.numbers.show.Goals as goal

pub returns-then-number-l-clause-numbers : goal.returns-then-number-l-clause-numbers
returns-then-number-l-clause-numbers c =
    numbers-kept c.args.labels.now c.args.l (sym c.show-number.ensures.number ∙ c.if-number-l.true) c.args.numbers.now.items

pub returns-then-number-l-clause-relabels : goal.returns-then-number-l-clause-relabels
returns-then-number-l-clause-relabels c =
    numbers-kept c.args.labels.now c.args.l (sym c.show-number.ensures.number ∙ c.if-number-l.true) c.args.relabels.now.items

pub returns-clause-numbers : goal.returns-clause-numbers
returns-clause-numbers c =
    c.exchange.ensures ∙ ap (λ k. map (exchanged k c.args.l) c.args.numbers.now.items) c.show-number.ensures.number
    ∙ numbers-moved c.args.labels.now c.args.l (λ e. c.if-number-l.false (c.show-number.ensures.number ∙ e)) c.args.numbers.now.items

pub returns-clause-relabels : goal.returns-clause-relabels
returns-clause-relabels c =
    c.exchange-2.ensures ∙ ap (λ k. map (exchanged k c.args.l) c.args.relabels.now.items) c.show-number.ensures.number
    ∙ numbers-moved c.args.labels.now c.args.l (λ e. c.if-number-l.false (c.show-number.ensures.number ∙ e)) c.args.relabels.now.items
