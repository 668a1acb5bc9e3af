use Rattle.std.proofs.Common.{sym, ap, ◌∙◌, arith, refl, ◌-◌}
use Rattle.graph_spec.specs.Graphs.{is_live}
use Rattle.graph_spec.specs.Changes.{without_node, is_used}
use Rattle.label_graph.specs.ReservedGraphs.{graph_by, reserved_by}
use Rattle.label_graph.specs.Nodes.{labels_of}
use Rattle.label_graph.proofs.Additions.{sound-as, view-as, view-both}
use Rattle.label_graph.proofs.GoneNodes.{some-node, sound-gone, node-taken}
use Rattle.graph_spec.proofs.Uses.{unused_bare}
use Rattle.label_graph.proofs.graph.Graph.remove_node.Goals as goal

pub overflow_sub-self : goal.overflow_sub-self
overflow_sub-self c =
    let s = c.self.inside in
    let live = ap (λ h. is_live h.graph c.args.u) c.self.view_is ∙ c.requires.live in
    omega (arith, some-node s.labels (labels_of s.nodes.shown s.nodes.nodes) s.node_count c.args.u c.self.invariant.labels live)

pub invariant_of-self : goal.invariant_of-self
invariant_of-self c =
    let s = c.self.inside in
    let new = c.clear_label.new.self in
    let live = ap (λ h. is_live h.graph c.args.u) c.self.view_is ∙ c.requires.live in
    let bare = unused_bare (graph_by s.labels s.nodes.shown s.nodes.nodes) c.args.u (ap (λ h. is_used h.graph c.args.u) c.self.view_is ∙ c.requires.unused) in
    let labels = ap (λ n. labels_of n new.nodes) (sym c.clear_label.ensures.shown) ∙ c.clear_label.ensures.labels in
    sound-as s.labels s.labels s.nodes.shown new.shown new.nodes s.edge_count (s.node_count - 1) s.label_numbers.items s.label_numbers.items s.pairs s.pairs s.relabel_numbers.items s.relabel_numbers.items
    refl c.clear_label.ensures.shown refl refl refl
    (sound-gone s.labels s.nodes.shown s.nodes.nodes new.nodes c.args.u live labels c.clear_label.ensures.children c.clear_label.ensures.parents bare c.clear_label.ensures.reserved
    s.edge_count s.node_count s.label_numbers.items s.pairs s.relabel_numbers.items c.self.invariant)

pub returns : goal.returns
returns c =
    let s = c.self.inside in
    let new = c.clear_label.new.self in
    let live = ap (λ h. is_live h.graph c.args.u) c.self.view_is ∙ c.requires.live in
    let labels = ap (λ n. labels_of n new.nodes) (sym c.clear_label.ensures.shown) ∙ c.clear_label.ensures.labels in
    let held = reserved_by s.labels s.label_numbers.items s.pairs s.relabel_numbers.items in
    view-as s.labels s.labels s.nodes.shown new.shown new.nodes s.label_numbers.items s.label_numbers.items s.pairs s.pairs s.relabel_numbers.items s.relabel_numbers.items refl c.clear_label.ensures.shown refl refl refl
    ∙ view-both _ _ held held (node-taken s.labels s.nodes.shown s.nodes.nodes new.nodes c.args.u live labels c.clear_label.ensures.children c.clear_label.ensures.parents) refl
    ∙ ap (λ h. record { graph = without_node h.graph c.args.u; reserved = h.reserved }) c.self.view_is
