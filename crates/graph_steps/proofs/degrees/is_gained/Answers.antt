use Rattle.std.proofs.Common.{◌∙◌, ap, sym}
use Rattle.std.specs.Prelude.{◌&&◌, not}
use Rattle.graph_spec.specs.Graphs.{has_edge}
use Rattle.change_spec.specs.Steps.{after}
use Rattle.change_spec.specs.Named.{is_dropped}
use Rattle.graph_steps.specs.StepLists.{steps_of}
use Rattle.graph_steps.proofs.NodeEdges.{counted_stay}
use Rattle.graph_steps.proofs.degrees.is_gained.Goals as goal

pub has_edge-requires-clause-from : goal.has_edge-requires-clause-from
has_edge-requires-clause-from c =
    c.requires.within c.args.a (counted_stay c.args.u (is_dropped (steps_of c.args.all_steps.now)) c.args.a c.args.b (sym c.is_counted.ensures ∙ c.if-is_counted.true)).0

pub has_edge-requires-clause-onto : goal.has_edge-requires-clause-onto
has_edge-requires-clause-onto c =
    c.requires.within c.args.b (counted_stay c.args.u (is_dropped (steps_of c.args.all_steps.now)) c.args.a c.args.b (sym c.is_counted.ensures ∙ c.if-is_counted.true)).1

pub returns-then-is_counted : goal.returns-then-is_counted
returns-then-is_counted c =
    ap not c.has_edge.ensures
    ∙ sym (ap (λ b. b && not (has_edge (after c.args.prefix.now c.args.graph.now.graph) c.args.a c.args.b)) (sym c.is_counted.ensures ∙ c.if-is_counted.true))

pub returns : goal.returns
returns c =
    sym (ap (λ b. b && not (has_edge (after c.args.prefix.now c.args.graph.now.graph) c.args.a c.args.b)) (sym c.is_counted.ensures ∙ c.if-is_counted.false))
