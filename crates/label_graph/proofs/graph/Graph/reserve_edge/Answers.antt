use Rattle.std.proofs.Common.{ap, sym, subst, arith, ◌∙◌, refl, IsTrue, [], ◌∷◌, ◌++◌}
use Rattle.label_graph.specs.ReservedGraphs.{graph_by, reserved_by, can_be_joined}
use Rattle.label_graph.proofs.KeepsSound.{sound-same, sound-pair}
use Rattle.label_graph.proofs.Additions.{on-err, graph-same, joined, sound-as, view-as, view-both}
use Rattle.label_graph.proofs.graph.Graph.reserve_edge.Goals as goal

pub reserve_edge-requires-clause-kept : goal.reserve_edge-requires-clause-kept
reserve_edge-requires-clause-kept c =
    let s = c.self.inside in
    let rows = c.self.invariant.reserved.rows in
    let from = subst (λ h. IsTrue (can_be_joined h c.args.u)) (sym c.self.view_is) c.requires.from in
    let onto = subst (λ h. IsTrue (can_be_joined h c.args.v)) (sym c.self.view_is) c.requires.onto in (
      (joined s.labels s.nodes.shown s.nodes.nodes s.label_numbers.items s.pairs s.relabel_numbers.items c.args.u rows from).kept,
      (joined s.labels s.nodes.shown s.nodes.nodes s.label_numbers.items s.pairs s.relabel_numbers.items c.args.v rows onto).kept,
    )

pub reserve_edge-requires-clause-reserved : goal.reserve_edge-requires-clause-reserved
reserve_edge-requires-clause-reserved c =
    let s = c.self.inside in
    let u = c.args.u in
    let v = c.args.v in
    let kept = reserve_edge-requires-clause-kept c in
    let from = c.starting-from.ensures in
    let onto = c.ending-onto.ensures in
    record {
      child = omega (arith, from, c.self.invariant.reserved.children u kept.0);
      parent = omega (arith, onto, c.self.invariant.reserved.parents v kept.1);
    }

pub invariant_of-self : goal.invariant_of-self
invariant_of-self c =
    let s = c.self.inside in
    let new = c.reserve_edge.new.self in
    sound-as s.labels s.labels s.nodes.shown new.shown new.nodes s.edge_count s.node_count s.label_numbers.items s.label_numbers.items s.pairs s.pairs s.relabel_numbers.items s.relabel_numbers.items
    refl c.reserve_edge.ensures.shown refl refl refl (sound-same s.labels s.nodes.shown s.nodes.nodes s.edge_count s.node_count s.label_numbers.items s.pairs s.relabel_numbers.items c.self.invariant new.nodes c.reserve_edge.ensures.same)

pub returns-in_err-reserve_edge-clause-graph : goal.returns-in_err-reserve_edge-clause-graph
returns-in_err-reserve_edge-clause-graph c =
    let s = c.self.inside in
    let new = c.reserve_edge.new.self in
    ap (λ n. graph_by s.labels n new.nodes) c.reserve_edge.ensures.shown ∙ graph-same s.labels s.nodes.shown s.nodes.nodes new.nodes c.reserve_edge.ensures.same ∙ ap (λ h. h.graph) c.self.view_is

pub returns-in_err-reserve_edge-clause-err : goal.returns-in_err-reserve_edge-clause-err
returns-in_err-reserve_edge-clause-err c =
    let s = c.self.inside in
    let new = c.reserve_edge.new.self in
    let held = reserved_by s.labels s.label_numbers.items s.pairs s.relabel_numbers.items in
    on-err c.from_residual.result
    (view-as s.labels s.labels s.nodes.shown new.shown new.nodes s.label_numbers.items s.label_numbers.items s.pairs s.pairs s.relabel_numbers.items s.relabel_numbers.items refl c.reserve_edge.ensures.shown refl refl refl
    ∙ view-both _ _ held held (graph-same s.labels s.nodes.shown s.nodes.nodes new.nodes c.reserve_edge.ensures.same) refl ∙ c.self.view_is)

pub invariant_of-self-2 : goal.invariant_of-self-2
invariant_of-self-2 c =
    let s = c.self.inside in
    let new = c.reserve_edge.new.self in
    let u = c.args.u in
    let v = c.args.v in
    let from = c.starting-from.ensures in
    let onto = c.ending-onto.ensures in
    sound-as s.labels s.labels s.nodes.shown new.shown new.nodes s.edge_count s.node_count s.label_numbers.items s.label_numbers.items (s.pairs ++ (u, v) ∷ []) c.push.new.self s.relabel_numbers.items s.relabel_numbers.items
    refl c.reserve_edge.ensures.shown refl c.in_ok-push.ensures.ok refl
    (sound-pair s.labels s.nodes.shown s.nodes.nodes s.edge_count s.node_count s.label_numbers.items s.pairs s.relabel_numbers.items c.self.invariant new.nodes c.reserve_edge.ensures.same u v c.starting-from.result c.ending-onto.result c.in_ok-reserve_edge.ensures.reserved from onto)

pub returns-clause-graph : goal.returns-clause-graph
returns-clause-graph c =
    let s = c.self.inside in
    let new = c.reserve_edge.new.self in
    ap (λ n. graph_by s.labels n new.nodes) c.reserve_edge.ensures.shown ∙ graph-same s.labels s.nodes.shown s.nodes.nodes new.nodes c.reserve_edge.ensures.same ∙ ap (λ h. h.graph) c.self.view_is

pub invariant_of-self-in_err-push : goal.invariant_of-self-in_err-push
invariant_of-self-in_err-push c =
    let s = c.self.inside in
    let new = c.reserve_edge.new.self in
    sound-as s.labels s.labels s.nodes.shown new.shown new.nodes s.edge_count s.node_count s.label_numbers.items s.label_numbers.items s.pairs c.push.new.self s.relabel_numbers.items s.relabel_numbers.items
    refl c.reserve_edge.ensures.shown refl c.in_err-push.ensures.err refl (sound-same s.labels s.nodes.shown s.nodes.nodes s.edge_count s.node_count s.label_numbers.items s.pairs s.relabel_numbers.items c.self.invariant new.nodes c.reserve_edge.ensures.same)

pub returns-in_err-push-clause-graph : goal.returns-in_err-push-clause-graph
returns-in_err-push-clause-graph c =
    let s = c.self.inside in
    let new = c.reserve_edge.new.self in
    ap (λ n. graph_by s.labels n new.nodes) c.reserve_edge.ensures.shown ∙ graph-same s.labels s.nodes.shown s.nodes.nodes new.nodes c.reserve_edge.ensures.same ∙ ap (λ h. h.graph) c.self.view_is

pub returns-in_err-push-clause-err : goal.returns-in_err-push-clause-err
returns-in_err-push-clause-err c =
    let s = c.self.inside in
    let new = c.reserve_edge.new.self in
    let held = reserved_by s.labels s.label_numbers.items s.pairs s.relabel_numbers.items in
    on-err c.from_residual-in_err-push.result
    (view-as s.labels s.labels s.nodes.shown new.shown new.nodes s.label_numbers.items s.label_numbers.items s.pairs c.push.new.self s.relabel_numbers.items s.relabel_numbers.items refl c.reserve_edge.ensures.shown refl c.in_err-push.ensures.err refl
    ∙ view-both _ _ held held (graph-same s.labels s.nodes.shown s.nodes.nodes new.nodes c.reserve_edge.ensures.same) refl ∙ c.self.view_is)
