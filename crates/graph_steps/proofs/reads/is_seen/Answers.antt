use Rattle.std.proofs.Common.{◌∙◌, ap, sym, take}
use Rattle.graph_spec.specs.Graphs.{is_seen}
use Rattle.change_spec.specs.Steps.{after}
use Rattle.graph_steps.specs.StepLists.{steps_of}
use Rattle.graph_steps.proofs.PrefixSteps.{after_at}
use Rattle.graph_steps.proofs.GrownCounts.{seen_stays}
use Rattle.graph_steps.proofs.reads.is_seen.Goals as goal

pub loop-i-preserved : goal.loop-i-preserved
loop-i-preserved c =
    let ss = c.args.prefix.now in
    let i = c.loop-i.i in
    let g = c.args.graph.now.graph in
    let more = after_at ss i c.index-prefix-i.result g c.loop-i-test.true c.index-prefix-i.is in
    c.seen_after-seen.ensures (after (steps_of (take i ss)) g) c.loop-i.invariant ∙ ap (λ k. is_seen k.seen c.args.text.now) (sym more)

pub returns-then-seen_before : goal.returns-then-seen_before
returns-then-seen_before c =
    sym (seen_stays (steps_of c.args.prefix.now) c.args.graph.now.graph c.args.text.now
    (ap (λ s. is_seen s c.args.text.now) (sym c.labels.ensures.seen) ∙ sym c.seen_before.ensures ∙ c.if-seen_before.true))
