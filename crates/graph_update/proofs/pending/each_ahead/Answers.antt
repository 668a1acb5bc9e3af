use Rattle.std.proofs.Common.{◌≡◌, ◌∙◌, ap, subst, List, take, Option, ℕ}
use Rattle.std.specs.Prelude.{IfSome}
use Rattle.graph_spec.specs.Graphs.{Graph}
use Rattle.label_graph.specs.LabelTable.{entries}
use Rattle.change_spec.specs.Steps.{after, made}
use Rattle.graph_steps.specs.StepLists.{step_of, steps_of}
use Rattle.graph_steps.specs.declared.changes.Step.{Step as Asked}
use Rattle.graph_steps.proofs.PrefixSteps.{after_at, all_taken}
use Rattle.graph_update.proofs.LabelsAhead.{shown_first}
use Rattle.graph_update.proofs.pending.each_ahead.Goals as goal

pub loop-i-init : goal.loop-i-init
loop-i-init c = λ g same. shown_first c.args.labels.now g c.len-shown.result same c.len-shown.ensures.count

pub loop-i-preserved : goal.loop-i-preserved
loop-i-preserved c = λ g same.
    let ss = c.args.steps.now in
    let i = c.loop-i.i in
    let s = c.index-steps-i.result in
    let xs = entries c.args.labels.now in
    let more = after_at ss i s g c.loop-i-test.true c.index-steps-i.is in
    let one = subst (λ (o : Option ℕ). IfSome o (λ n. (h : Graph) → h.seen ≡ take c.loop-i.shown xs → (made (step_of s) h).seen ≡ take n xs)) c.in-Some.is c.shown_by.ensures in
    ap (λ k. k.seen) more ∙ one (after (steps_of (take i ss)) g) (c.loop-i.invariant g same)

pub returns : goal.returns
returns c = λ yes g same. record {
  count = c.loop-i.shown;
  seen =
      subst (λ (ss : List Asked). (after (steps_of ss) g).seen ≡ take c.loop-i.shown (entries c.args.labels.now)) (all_taken c.args.steps.now c.loop-i.i c.loop-i-test.false)
      (c.loop-i.invariant g same);
}
