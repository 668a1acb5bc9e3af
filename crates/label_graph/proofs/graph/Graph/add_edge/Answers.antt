use Rattle.std.proofs.Common.{subst, sym, ap, ◌∙◌, arith, refl, IsTrue, ◌<◌, ◌+◌, ◌^◌}
use Rattle.std.specs.FinSet as set
use Rattle.graph_spec.specs.Graphs.{is_live, has_edge}
use Rattle.graph_spec.specs.Changes.{with_edge}
use Rattle.label_graph.specs.ReservedGraphs.{graph_by, has_pair, without_pair}
use Rattle.label_graph.specs.Nodes.{labels_of}
use Rattle.label_graph.proofs.Additions.{sound-as, sound-edge, edge-added, pair-fits, live-number}
use Rattle.label_graph.proofs.EdgeLists.{has_edge-children}
use Rattle.label_graph.proofs.graph.Graph.add_edge.Goals as goal

pub push_edge-requires-clause-reserved : goal.push_edge-requires-clause-reserved
push_edge-requires-clause-reserved c =
    let s = c.self.inside in
    let from = live-number s.labels s.nodes.shown s.nodes.nodes c.args.u (subst (λ h. IsTrue (is_live h.graph c.args.u)) (sym c.self.view_is) c.requires.from) in
    let onto = live-number s.labels s.nodes.shown s.nodes.nodes c.args.v (subst (λ h. IsTrue (is_live h.graph c.args.v)) (sym c.self.view_is) c.requires.onto) in
    let there = subst (λ h. IsTrue (has_pair h.reserved.pairs c.args.u c.args.v)) (sym c.self.view_is) c.requires.reserved in
    pair-fits s.labels s.nodes.shown s.nodes.nodes s.edge_count s.node_count c.args.u c.args.v s.label_numbers.items s.pairs s.relabel_numbers.items c.self.invariant from onto there

pub invariant_of-self : goal.invariant_of-self
invariant_of-self c =
    let s = c.self.inside in
    let u = c.args.u in
    let v = c.args.v in
    let new = c.push_edge.new.self in
    let from = live-number s.labels s.nodes.shown s.nodes.nodes u (subst (λ h. IsTrue (is_live h.graph u)) (sym c.self.view_is) c.requires.from) in
    let onto = live-number s.labels s.nodes.shown s.nodes.nodes v (subst (λ h. IsTrue (is_live h.graph v)) (sym c.self.view_is) c.requires.onto) in
    let there = subst (λ h. IsTrue (has_pair h.reserved.pairs u v)) (sym c.self.view_is) c.requires.reserved in
    let absent = sym (has_edge-children s.nodes.nodes u v) ∙ ap (λ h. has_edge h.graph u v) c.self.view_is ∙ c.requires.absent in
    let few = subst (λ h. set.len h.graph.edges < 2 ^ 30) (sym c.self.view_is) c.requires.few in
    let fewer : s.edge_count < 2 ^ 30 = omega (arith, few, c.self.invariant.lists.edge_count_is) in
    let labels = ap (λ n. labels_of n new.nodes) (sym c.push_edge.ensures.shown) ∙ c.push_edge.ensures.labels in
    sound-as s.labels s.labels s.nodes.shown new.shown new.nodes (s.edge_count + 1) s.node_count s.label_numbers.items s.label_numbers.items (without_pair s.pairs u v) c.take.new.self s.relabel_numbers.items s.relabel_numbers.items
    refl c.push_edge.ensures.shown refl c.take.ensures refl
    (sound-edge s.labels s.nodes.shown s.nodes.nodes new.nodes s.edge_count s.node_count u v s.label_numbers.items s.pairs s.relabel_numbers.items c.self.invariant labels c.push_edge.ensures.children c.push_edge.ensures.parents
    absent fewer from onto c.push_edge.ensures.reserved there)

pub returns-clause-graph : goal.returns-clause-graph
returns-clause-graph c =
    let s = c.self.inside in
    let new = c.push_edge.new.self in
    let labels = ap (λ n. labels_of n new.nodes) (sym c.push_edge.ensures.shown) ∙ c.push_edge.ensures.labels in
    ap (λ n. graph_by s.labels n new.nodes) c.push_edge.ensures.shown
    ∙ edge-added s.labels s.nodes.shown s.nodes.nodes new.nodes s.edge_count s.node_count c.args.u c.args.v s.label_numbers.items s.pairs s.relabel_numbers.items c.self.invariant labels c.push_edge.ensures.children c.push_edge.ensures.parents
    ∙ ap (λ h. with_edge h.graph c.args.u c.args.v) c.self.view_is
