use Rattle.std.proofs.Common.{◌∙◌, ap, sym, subst, arith}
use Rattle.std.specs.Prelude.{IsTrue}
use Rattle.graph_spec.specs.Graphs.{is_live}
use Rattle.change_spec.specs.Steps.{after}
use Rattle.change_spec.specs.Places.{CanMakeAll}
use Rattle.graph_steps.specs.Counted.{touching}
use Rattle.graph_steps.proofs.NamedParts.{counted}
use Rattle.graph_steps.proofs.degrees.edges_at.Goals as goal

pub edges_behind-requires-clause-few : goal.edges_behind-requires-clause-few
edges_behind-requires-clause-few c =
    let len = counted c.steps.result.now c.args.prefix.now c.steps.ensures in
    let few = c.requires.few in
    omega (arith, len, few)

pub edges_behind-requires-clause-can : goal.edges_behind-requires-clause-can
edges_behind-requires-clause-can c = subst (λ k. CanMakeAll k c.args.graph.now.graph) (sym c.steps.ensures) c.requires.can

pub edges_behind-requires-clause-live : goal.edges_behind-requires-clause-live
edges_behind-requires-clause-live c = subst (λ k. IsTrue (is_live (after k c.args.graph.now.graph) c.args.u)) (sym c.steps.ensures) c.requires.live

pub returns : goal.returns
returns c = c.edges_behind.ensures ∙ ap (λ k. touching (after k c.args.graph.now.graph) c.args.u) c.steps.ensures
