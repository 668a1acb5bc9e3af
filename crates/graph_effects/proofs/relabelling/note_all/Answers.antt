use Rattle.std.proofs.Common.{◌≡◌, ◌+◌, ◌∷◌, ◌++◌, subst, arith, drop, List}
use Rattle.change_spec.specs.Steps.{Step}
use Rattle.graph_steps.specs.StepLists.{step_of}
use Rattle.graph_steps.proofs.NamedParts.{counted, step_there}
use Rattle.graph_update.specs.PendingChanges.{graph_after}
use Rattle.graph_effects.specs.Effects.{is_relabelled}
use Rattle.graph_effects.specs.StepEffects.{relabelled_where}
use Rattle.graph_effects.proofs.Relabelled.{relabelled_next, none_behind}
use Rattle.graph_effects.proofs.relabelling.note_all.Goals as goal

pub note_last-requires-clause-next : goal.note_last-requires-clause-next
note_last-requires-clause-next c =
    let len = counted c.steps-all.result.now c.args.change.now c.steps-all.ensures in
    let below = c.loop-i-test.true in
    omega (arith, len, below)

pub loop-i-preserved : goal.loop-i-preserved
loop-i-preserved c =
    let a = c.args.after.now in
    let all = c.steps-all.result.now in
    let whole = c.args.change.now in
    let i = c.loop-i.i in
    let s = step_of c.index-all-i.result in
    let there : drop i whole ≡ s ∷ drop (i + 1) whole =
    subst (λ (k : List Step). drop i k ≡ s ∷ drop (i + 1) k) c.steps-all.ensures (step_there all i c.index-all-i.result c.loop-i-test.true c.index-all-i.is) in
    relabelled_next (is_relabelled a.before (graph_after a)) s (drop (i + 1) whole) (drop i whole) c.loop-i.nodes.items c.note_last.new.nodes.items
    (c.args.nodes.now.items ++ relabelled_where (is_relabelled a.before (graph_after a)) whole) there c.loop-i.invariant c.in_ok-note_last.ensures

pub returns : goal.returns
returns c =
    let a = c.args.after.now in
    let len = counted c.steps-all.result.now c.args.change.now c.steps-all.ensures in
    let past = c.loop-i-test.false in
    none_behind (is_relabelled a.before (graph_after a)) c.args.change.now c.loop-i.i c.loop-i.nodes.items (c.args.nodes.now.items ++ relabelled_where (is_relabelled a.before (graph_after a)) c.args.change.now)
    (omega (arith, len, past)) c.loop-i.invariant
