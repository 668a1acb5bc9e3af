use Rattle.std.proofs.Common.{◌∙◌, ◌+◌, ap, sym, arith, length, take, List, Some, true≢false}
use Rattle.std.specs.Prelude.{position, bytes_eq}
use Rattle.graph_spec.specs.Graphs.{is_seen}
use Rattle.change_spec.specs.Steps.{after}
use Rattle.graph_steps.specs.StepLists.{steps_of}
use Rattle.graph_steps.specs.declared.changes.Step.{Step as Asked}
use Rattle.graph_steps.proofs.PrefixSteps.{after_at, all_taken}
use Rattle.graph_update.proofs.LabelLaws.{unseen_number, number_prefix, prefix_seen}
use Rattle.graph_update.proofs.pending.new_number.Goals as goal

pub returns-then-brings : goal.returns-then-brings
returns-then-brings c =
    let ss = c.args.steps.now in
    let i = c.loop-i.i in
    let g = c.args.graph.now.graph in
    let label = c.args.label.now in
    let h = after (steps_of (take i ss)) g in
    let inv = c.loop-i.invariant in
    let more = after_at ss i c.index-steps-i.result g c.loop-i-test.true c.index-steps-i.is in
    let some = c.brings.ensures.some c.if-brings.true in
    number_prefix ss (i + 1) g (bytes_eq label) c.loop-i.labels
    (ap (λ k. position (bytes_eq label) k.seen) more ∙ ap (position (bytes_eq label)) (some h) ∙ unseen_number h.seen label inv.unseen ∙ ap Some (sym inv.labels))

pub labels_by-labels-requires-clause-labels : goal.labels_by-labels-requires-clause-labels
labels_by-labels-requires-clause-labels c = c.loop-i.invariant.labels

pub labels_by-labels-requires-clause-few : goal.labels_by-labels-requires-clause-few
labels_by-labels-requires-clause-few c =
    let ss = c.args.steps.now in
    let i = c.loop-i.i in
    let g = c.args.graph.now.graph in
    let more = ap (λ k. length k.seen) (after_at ss i c.index-steps-i-in-loop-i.result g c.loop-i-test.true c.index-steps-i-in-loop-i.is) in
    let law = prefix_seen ss (i + 1) g in
    let few = c.requires.few in
    omega (arith, more, law, few)

pub loop-i-preserved : goal.loop-i-preserved
loop-i-preserved c =
    let ss = c.args.steps.now in
    let i = c.loop-i.i in
    let g = c.args.graph.now.graph in
    let label = c.args.label.now in
    let h = after (steps_of (take i ss)) g in
    let first = after_at ss i c.index-steps-i.result g c.loop-i-test.true c.index-steps-i.is in
    let more = after_at ss i c.index-steps-i-in-loop-i.result g c.loop-i-test.true c.index-steps-i-in-loop-i.is in
    record {
      labels = c.labels_by-labels.ensures ∙ ap (λ k. length k.seen) (sym more);
      unseen = ap (λ k. is_seen k.seen label) first ∙ c.brings.ensures.none c.if-brings.false h ∙ c.loop-i.invariant.unseen;
    }

pub returns : goal.returns
returns c =
    let g = c.args.graph.now.graph in
    let label = c.args.label.now in
    let all = ap (λ (xs : List Asked). is_seen (after (steps_of xs) g).seen label) (all_taken c.args.steps.now c.loop-i.i c.loop-i-test.false) in
    absurd (true≢false (sym c.requires.seen ∙ sym all ∙ c.loop-i.invariant.unseen))
