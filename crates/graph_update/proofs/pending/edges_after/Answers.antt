use Rattle.std.proofs.Common.{◌∙◌, ap, sym, subst, arith, List, take}
use Rattle.std.proofs.lemmas.List.{length-take-le}
use Rattle.std.specs.FinSet as set
use Rattle.change_spec.specs.Steps.{after, made}
use Rattle.change_spec.specs.Places.{CanMake, CanMakeAll}
use Rattle.graph_steps.specs.StepLists.{step_of, steps_of}
use Rattle.graph_steps.specs.declared.changes.Step.{Step as Asked}
use Rattle.graph_steps.proofs.PrefixSteps.{after_at, can_at, can_prefix, all_taken}
use Rattle.graph_steps.proofs.NamedParts.{counted, prefix_taken}
use Rattle.graph_update.proofs.pending.edges_after.Goals as goal

pub prefix-requires : goal.prefix-requires
prefix-requires c =
    let len = counted c.args.steps.now c.args.change.now c.requires.same in
    let below = c.loop-i-test.true in
    omega (arith, len, below)

pub edges_by-edges-requires-clause-few : goal.edges_by-edges-requires-clause-few
edges_by-edges-requires-clause-few c =
    let ss = c.args.steps.now in
    let i = c.loop-i.i in
    let below = c.loop-i-test.true in
    let taken = length-take-le i ss (omega (arith, below)) in
    let same = counted (take i ss) c.prefix.result (prefix_taken ss c.args.change.now i c.requires.same ∙ sym c.prefix.ensures) in
    let few = c.requires.few in
    omega (arith, taken, same, below, few)

pub edges_by-edges-requires-clause-few_edges : goal.edges_by-edges-requires-clause-few_edges
edges_by-edges-requires-clause-few_edges c =
    let few = c.loop-i.invariant.few in
    let short = c.requires.few in
    let below = c.loop-i-test.true in
    omega (arith, few, short, below)

pub edges_by-edges-requires-clause-can : goal.edges_by-edges-requires-clause-can
edges_by-edges-requires-clause-can c =
    subst (λ k. CanMakeAll k c.args.graph.now.graph) (prefix_taken c.args.steps.now c.args.change.now c.loop-i.i c.requires.same ∙ sym c.prefix.ensures)
    (can_prefix c.args.steps.now c.loop-i.i c.args.graph.now.graph c.requires.can)

pub edges_by-edges-requires-clause-can_step : goal.edges_by-edges-requires-clause-can_step
edges_by-edges-requires-clause-can_step c =
    subst (λ k. CanMake (step_of c.index-steps-i.result) (after k c.args.graph.now.graph))
    (prefix_taken c.args.steps.now c.args.change.now c.loop-i.i c.requires.same ∙ sym c.prefix.ensures)
    (can_at c.args.steps.now c.loop-i.i c.index-steps-i.result c.args.graph.now.graph c.loop-i-test.true c.index-steps-i.is c.requires.can)

pub edges_by-edges-requires-clause-edges : goal.edges_by-edges-requires-clause-edges
edges_by-edges-requires-clause-edges c =
    c.loop-i.invariant.edges
    ∙ ap (λ k. set.len (after k c.args.graph.now.graph).edges) (prefix_taken c.args.steps.now c.args.change.now c.loop-i.i c.requires.same ∙ sym c.prefix.ensures)

pub loop-i-preserved : goal.loop-i-preserved
loop-i-preserved c =
    let ss = c.args.steps.now in
    let i = c.loop-i.i in
    let g = c.args.graph.now.graph in
    let s = step_of c.index-steps-i.result in
    let more = after_at ss i c.index-steps-i.result g c.loop-i-test.true c.index-steps-i.is in
    let here = c.prefix.ensures ∙ sym (prefix_taken ss c.args.change.now i c.requires.same) in
    let most = c.edges_by-edges.ensures.most in
    let few = c.loop-i.invariant.few in
    record {
      edges = c.edges_by-edges.ensures.edges ∙ ap (λ k. set.len (made s (after k g)).edges) here ∙ ap (λ k. set.len k.edges) (sym more);
      few = omega (arith, most, few);
    }

pub returns-clause-edges : goal.returns-clause-edges
returns-clause-edges c =
    c.loop-i.invariant.edges ∙ ap (λ (ss : List Asked). set.len (after (steps_of ss) c.args.graph.now.graph).edges) (all_taken c.args.steps.now c.loop-i.i c.loop-i-test.false)
