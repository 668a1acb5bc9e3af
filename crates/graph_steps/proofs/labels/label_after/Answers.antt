use Rattle.std.proofs.Common.{◌<◌, ◌∙◌, ap, sym, arith, length}
use Rattle.std.specs.Option.{option_or}
use Rattle.graph_spec.specs.Graphs.{label_of}
use Rattle.graph_steps.proofs.StepLabels.{relabelled_label, added_earlier}
use Rattle.graph_steps.proofs.labels.label_after.Goals as goal

pub returns-then-n-created : goal.returns-then-n-created
returns-then-n-created c =
    let g = c.args.graph.now.graph in
    let f = c.args.prefix.now in
    let n = c.args.n in
    let below : n < length g.allocated = omega (arith, c.if-n-created.true, c.created-created.ensures.count) in
    relabelled_label f g n below c.requires.can c.requires.live
    ∙ ap (λ o. option_or o (label_of g n)) (sym c.relabelled.ensures)

pub added_label-requires : goal.added_label-requires
added_label-requires c =
    let below = added_earlier c.args.prefix.now c.args.graph.now.graph c.args.n c.requires.live in
    let count = c.created-created.ensures.count in
    let above = c.if-n-created.false in
    omega (arith, below, count, above)

pub returns : goal.returns
returns c =
    let count = c.created-created.ensures.count in
    let above = c.if-n-created.false in
    c.added_label.ensures c.args.graph.now.graph c.requires.can c.requires.live (omega (arith, count, above))
