use Rattle.std.proofs.Common.{sym, ap, ◌∙◌, arith, refl, true, ◌≡◌, ◌-◌}
use Rattle.graph_spec.specs.Graphs.{has_edge}
use Rattle.graph_spec.specs.Changes.{without_edge}
use Rattle.graph_spec.specs.Members.{has}
use Rattle.label_graph.specs.ReservedGraphs.{reserved_by}
use Rattle.label_graph.specs.Nodes.{children_of}
use Rattle.label_graph.proofs.Additions.{sound-as, view-as, view-both}
use Rattle.label_graph.proofs.EdgeLists.{has_edge-children}
use Rattle.label_graph.proofs.GoneEdges.{sound-less, edge-taken, some-edge}
use Rattle.label_graph.proofs.GoneNodes.{live-below}
use Rattle.label_graph.proofs.graph.Graph.remove_edge.Goals as goal

pub remove_edge-requires-clause-from : goal.remove_edge-requires-clause-from
remove_edge-requires-clause-from c =
    let s = c.self.inside in
    let there : has (children_of s.nodes.nodes c.args.u) c.args.v ≡ true = sym (has_edge-children s.nodes.nodes c.args.u c.args.v) ∙ ap (λ h. has_edge h.graph c.args.u c.args.v) c.self.view_is ∙ c.requires.present in
    omega (arith, live-below s.nodes.shown s.nodes.nodes c.args.u (c.self.invariant.lists.ends c.args.u c.args.v there).from)

pub remove_edge-requires-clause-onto : goal.remove_edge-requires-clause-onto
remove_edge-requires-clause-onto c =
    let s = c.self.inside in
    let there : has (children_of s.nodes.nodes c.args.u) c.args.v ≡ true = sym (has_edge-children s.nodes.nodes c.args.u c.args.v) ∙ ap (λ h. has_edge h.graph c.args.u c.args.v) c.self.view_is ∙ c.requires.present in
    omega (arith, live-below s.nodes.shown s.nodes.nodes c.args.v (c.self.invariant.lists.ends c.args.u c.args.v there).onto)

pub overflow_sub-self : goal.overflow_sub-self
overflow_sub-self c =
    let s = c.self.inside in
    let there = ap (λ h. has_edge h.graph c.args.u c.args.v) c.self.view_is ∙ c.requires.present in
    omega (arith, c.self.invariant.lists.edge_count_is, some-edge _ c.args.u c.args.v there)

pub invariant_of-self : goal.invariant_of-self
invariant_of-self c =
    let s = c.self.inside in
    let new = c.remove_edge.new.self in
    let there = sym (has_edge-children s.nodes.nodes c.args.u c.args.v) ∙ ap (λ h. has_edge h.graph c.args.u c.args.v) c.self.view_is ∙ c.requires.present in
    sound-as s.labels s.labels s.nodes.shown new.shown new.nodes (s.edge_count - 1) s.node_count s.label_numbers.items s.label_numbers.items s.pairs s.pairs s.relabel_numbers.items s.relabel_numbers.items
    refl c.remove_edge.ensures.shown refl refl refl
    (sound-less s.nodes.shown s.nodes.nodes new.nodes c.args.u c.args.v c.remove_edge.ensures.lacking s.labels s.edge_count s.node_count s.label_numbers.items s.pairs s.relabel_numbers.items
    c.self.invariant there c.remove_edge.ensures.reserved)

pub returns : goal.returns
returns c =
    let s = c.self.inside in
    let new = c.remove_edge.new.self in
    let held = reserved_by s.labels s.label_numbers.items s.pairs s.relabel_numbers.items in
    view-as s.labels s.labels s.nodes.shown new.shown new.nodes s.label_numbers.items s.label_numbers.items s.pairs s.pairs s.relabel_numbers.items s.relabel_numbers.items refl c.remove_edge.ensures.shown refl refl refl
    ∙ view-both _ _ held held (edge-taken s.nodes.shown s.nodes.nodes new.nodes c.args.u c.args.v c.remove_edge.ensures.lacking s.labels) refl
    ∙ ap (λ h. record { graph = without_edge h.graph c.args.u c.args.v; reserved = h.reserved }) c.self.view_is
