use Rattle.std.proofs.Common.{◌≡◌, ◌∙◌, ap, sym, subst, true}
use Rattle.std.proofs.lemmas.Bool.{and_parts}
use Rattle.graph_spec.specs.Graphs.{IsGraph, is_live}
use Rattle.change_spec.specs.Named.{is_dropped}
use Rattle.change_spec.specs.EdgesAfter.{edge_after}
use Rattle.change_spec.proofs.ShownNeighbours.{edge_all}
use Rattle.graph_steps.proofs.NamedParts.{live_stays}
use Rattle.graph_update.specs.PendingChanges.{Pending, graph_after}
use Rattle.graph_update.proofs.PendingLaws.{new_can, new_graph, dead_edge}
use Rattle.graph_update.proofs.pending.After.edge_after.Goals as goal

pub edge_after-requires-clause-from : goal.edge_after-requires-clause-from
edge_after-requires-clause-from c =
    let p = c.args.self.now in
    let g = c.self.inside.graph.now.graph in
    let ss = c.self.inside.change.now in
    let live = and_parts (is_live (graph_after p) c.args.u) (is_live (graph_after p) c.args.v) (sym c.are_live.ensures ∙ c.if-are_live.true) in
    ap (λ k. is_dropped k c.args.u) c.as_prefix.ensures
    ∙ live_stays ss g c.args.u (new_can ss g c.self.invariant.new) (subst (λ (q : Pending). is_live (graph_after q) c.args.u ≡ true) (sym c.self.view_is) live.0)

pub edge_after-requires-clause-onto : goal.edge_after-requires-clause-onto
edge_after-requires-clause-onto c =
    let p = c.args.self.now in
    let g = c.self.inside.graph.now.graph in
    let ss = c.self.inside.change.now in
    let live = and_parts (is_live (graph_after p) c.args.u) (is_live (graph_after p) c.args.v) (sym c.are_live.ensures ∙ c.if-are_live.true) in
    ap (λ k. is_dropped k c.args.v) c.as_prefix.ensures
    ∙ live_stays ss g c.args.v (new_can ss g c.self.invariant.new) (subst (λ (q : Pending). is_live (graph_after q) c.args.v ≡ true) (sym c.self.view_is) live.1)

pub returns-then-are_live : goal.returns-then-are_live
returns-then-are_live c =
    let u = c.args.u in
    let v = c.args.v in
    c.edge_after.ensures ∙ ap (λ k. edge_after k u v c.args.present) c.as_prefix.ensures
    ∙ ap (λ (q : Pending). edge_after q.change u v c.args.present) c.self.view_is ∙ ap (edge_after c.args.self.now.change u v) c.requires
    ∙ sym (edge_all c.args.self.now.change c.args.self.now.before u v)

pub returns : goal.returns
returns c =
    let p = c.args.self.now in
    let graph = subst (λ (q : Pending). IsGraph (graph_after q)) c.self.view_is (new_graph c.self.inside.change.now c.self.inside.graph.now.graph c.self.invariant.new c.self.invariant.sound) in
    sym (dead_edge (graph_after p) c.args.u c.args.v graph (sym c.are_live.ensures ∙ c.if-are_live.false))
