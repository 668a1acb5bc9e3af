use Rattle.std.proofs.Common.{◌∙◌, ap, subst, arith}
use Rattle.std.specs.Prelude.{not, if◌then◌else◌}
use Rattle.std.specs.FinSet as set
use Rattle.bisim_spec.proofs.EdgeSets.{some_len}
use Rattle.change_spec.specs.Steps.{after, made, link, unlink}
use Rattle.change_spec.specs.Places.{CanMake}
use Rattle.graph_steps.specs.StepLists.{step_of}
use Rattle.graph_steps.specs.declared.changes.Step.{Step as Asked}
use Rattle.graph_steps.proofs.NamedParts.{live_stays}
use Rattle.graph_steps.proofs.GrownCounts.{edges_left, edges_fewer}
use Rattle.graph_update.proofs.PendingLaws.{linked_len}
use Rattle.graph_update.proofs.pending.edges_by.Goals as goal

pub has_edge-requires-clause-from : goal.has_edge-requires-clause-from
has_edge-requires-clause-from c =
    let h = after c.args.prefix.now c.args.graph.now.graph in
    let can : CanMake (link c.in-Link.u c.in-Link.v) h = subst (λ (s : Asked). CanMake (step_of s) h) c.in-Link.is c.requires.can_step in
    live_stays c.args.prefix.now c.args.graph.now.graph c.in-Link.u c.requires.can can.0

pub has_edge-requires-clause-onto : goal.has_edge-requires-clause-onto
has_edge-requires-clause-onto c =
    let h = after c.args.prefix.now c.args.graph.now.graph in
    let can : CanMake (link c.in-Link.u c.in-Link.v) h = subst (λ (s : Asked). CanMake (step_of s) h) c.in-Link.is c.requires.can_step in
    live_stays c.args.prefix.now c.args.graph.now.graph c.in-Link.v c.requires.can can.1

pub overflow_sub-result : goal.overflow_sub-result
overflow_sub-result c =
    let h = after c.args.prefix.now c.args.graph.now.graph in
    let can : CanMake (unlink c.in-Unlink.field-0 c.in-Unlink.field-1) h = subst (λ (s : Asked). CanMake (step_of s) h) c.in-Unlink.is c.requires.can_step in
    let some = some_len h.edges (c.in-Unlink.field-0, c.in-Unlink.field-1) can.2 in
    let count = c.requires.edges in
    omega (arith, some, count)

pub fewer-requires : goal.fewer-requires
fewer-requires c =
    let h = after c.args.prefix.now c.args.graph.now.graph in
    let law = edges_left h c.in-Drop.u in
    let gone = c.edges_at.ensures in
    let count = c.requires.edges in
    omega (arith, law, gone, count)

pub returns-in-Link-clause-edges : goal.returns-in-Link-clause-edges
returns-in-Link-clause-edges c =
    let h = after c.args.prefix.now c.args.graph.now.graph in
    let law = linked_len h c.in-Link.u c.in-Link.v in
    let same = ap (λ (s : Asked). set.len (made (step_of s) h).edges) c.in-Link.is in
    let one = c.one_if.ensures ∙ ap (λ b. if not b then 1 else 0) c.has_edge.ensures in
    let count = c.requires.edges in
    omega (arith, law, same, one, count)

pub returns-in-Unlink-clause-edges : goal.returns-in-Unlink-clause-edges
returns-in-Unlink-clause-edges c =
    let h = after c.args.prefix.now c.args.graph.now.graph in
    let can : CanMake (unlink c.in-Unlink.field-0 c.in-Unlink.field-1) h = subst (λ (s : Asked). CanMake (step_of s) h) c.in-Unlink.is c.requires.can_step in
    let law = edges_fewer h.edges (c.in-Unlink.field-0, c.in-Unlink.field-1) can.2 in
    let same = ap (λ (s : Asked). set.len (made (step_of s) h).edges) c.in-Unlink.is in
    let count = c.requires.edges in
    omega (arith, law, same, count)

pub returns-in-Drop-clause-edges : goal.returns-in-Drop-clause-edges
returns-in-Drop-clause-edges c =
    let h = after c.args.prefix.now c.args.graph.now.graph in
    let law = edges_left h c.in-Drop.u in
    let same = ap (λ (s : Asked). set.len (made (step_of s) h).edges) c.in-Drop.is in
    let gone = c.edges_at.ensures in
    let left = c.fewer.ensures in
    let count = c.requires.edges in
    omega (arith, law, same, gone, left, count)
