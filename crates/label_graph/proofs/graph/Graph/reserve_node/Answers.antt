use Rattle.std.proofs.Common.{ap, sym, ◌∙◌, arith, refl, length, [], ◌∷◌, ◌++◌, ◌<◌, ◌+◌}
use Rattle.std.specs.Prelude.{slice_get}
use Rattle.label_graph.specs.LabelTable.{with_ahead, entries}
use Rattle.label_graph.specs.ReservedGraphs.{graph_by, reserved_by, with_reserved_label}
use Rattle.label_graph.proofs.KeepsSound.{sound-same, sound-label}
use Rattle.label_graph.proofs.Additions.{on-err, graph-same, sound-as, view-as, view-both}
use Rattle.label_graph.proofs.ReservedLabels.{label-reserved}
use Rattle.label_graph.proofs.graph.Graph.reserve_node.Goals as goal

pub invariant_of-self-in_err-reserve : goal.invariant_of-self-in_err-reserve
invariant_of-self-in_err-reserve c =
    let s = c.self.inside in
    let new = c.reserve_node.new.self in
    sound-as s.labels s.labels s.nodes.shown new.shown new.nodes s.edge_count s.node_count s.label_numbers.items c.reserve.new.self.items s.pairs s.pairs s.relabel_numbers.items s.relabel_numbers.items
    refl c.reserve_node.ensures.shown c.reserve.ensures.items refl refl (sound-same s.labels s.nodes.shown s.nodes.nodes s.edge_count s.node_count s.label_numbers.items s.pairs s.relabel_numbers.items c.self.invariant new.nodes c.reserve_node.ensures.same)

pub returns-in_err-reserve-clause-graph : goal.returns-in_err-reserve-clause-graph
returns-in_err-reserve-clause-graph c =
    let s = c.self.inside in
    let new = c.reserve_node.new.self in
    ap (λ n. graph_by s.labels n new.nodes) c.reserve_node.ensures.shown ∙ graph-same s.labels s.nodes.shown s.nodes.nodes new.nodes c.reserve_node.ensures.same ∙ ap (λ h. h.graph) c.self.view_is

pub returns-in_err-reserve-clause-err : goal.returns-in_err-reserve-clause-err
returns-in_err-reserve-clause-err c =
    let s = c.self.inside in
    let new = c.reserve_node.new.self in
    let held = reserved_by s.labels s.label_numbers.items s.pairs s.relabel_numbers.items in
    on-err c.from_residual-in_err-reserve.result
    (view-as s.labels s.labels s.nodes.shown new.shown new.nodes s.label_numbers.items c.reserve.new.self.items s.pairs s.pairs s.relabel_numbers.items s.relabel_numbers.items refl c.reserve_node.ensures.shown c.reserve.ensures.items refl refl
    ∙ view-both _ _ held held (graph-same s.labels s.nodes.shown s.nodes.nodes new.nodes c.reserve_node.ensures.same) refl ∙ c.self.view_is)

pub invariant_of-self-in_err-number : goal.invariant_of-self-in_err-number
invariant_of-self-in_err-number c =
    let s = c.self.inside in
    let new = c.reserve_node.new.self in
    sound-as s.labels c.reserve-2.new.self s.nodes.shown new.shown new.nodes s.edge_count s.node_count s.label_numbers.items c.reserve.new.self.items s.pairs s.pairs s.relabel_numbers.items s.relabel_numbers.items
    c.in_err-number.ensures.err c.reserve_node.ensures.shown c.reserve.ensures.items refl refl (sound-same s.labels s.nodes.shown s.nodes.nodes s.edge_count s.node_count s.label_numbers.items s.pairs s.relabel_numbers.items c.self.invariant new.nodes c.reserve_node.ensures.same)

pub returns-in_err-number-clause-graph : goal.returns-in_err-number-clause-graph
returns-in_err-number-clause-graph c =
    let s = c.self.inside in
    let new = c.reserve_node.new.self in
    ap (λ x. graph_by x new.shown new.nodes) c.in_err-number.ensures.err
    ∙ ap (λ n. graph_by s.labels n new.nodes) c.reserve_node.ensures.shown ∙ graph-same s.labels s.nodes.shown s.nodes.nodes new.nodes c.reserve_node.ensures.same ∙ ap (λ h. h.graph) c.self.view_is

pub returns-in_err-number-clause-err : goal.returns-in_err-number-clause-err
returns-in_err-number-clause-err c =
    let s = c.self.inside in
    let new = c.reserve_node.new.self in
    let held = reserved_by s.labels s.label_numbers.items s.pairs s.relabel_numbers.items in
    on-err c.from_residual-in_err-number.result
    (view-as s.labels c.reserve-2.new.self s.nodes.shown new.shown new.nodes s.label_numbers.items c.reserve.new.self.items s.pairs s.pairs s.relabel_numbers.items s.relabel_numbers.items c.in_err-number.ensures.err c.reserve_node.ensures.shown c.reserve.ensures.items refl refl
    ∙ view-both _ _ held held (graph-same s.labels s.nodes.shown s.nodes.nodes new.nodes c.reserve_node.ensures.same) refl ∙ c.self.view_is)

pub invariant_of-self-2 : goal.invariant_of-self-2
invariant_of-self-2 c =
    let s = c.self.inside in
    let new = c.reserve_node.new.self in
    let t = c.args.label.now in
    let l = c.in_ok-number.number in
    let text = ap (λ x. slice_get (entries x) l) (sym c.in_ok-number.ensures.ahead) ∙ c.in_ok-number.ensures.number in
    let spare : s.nodes.shown + length s.label_numbers.items < length new.nodes = omega (arith, c.in_ok-reserve_node.ensures.ok, c.len.ensures) in
    sound-as (with_ahead s.labels t) c.reserve-2.new.self s.nodes.shown new.shown new.nodes s.edge_count s.node_count (s.label_numbers.items ++ l ∷ []) c.push_reserved.new.self.items s.pairs s.pairs s.relabel_numbers.items s.relabel_numbers.items
    c.in_ok-number.ensures.ahead c.reserve_node.ensures.shown (c.push_reserved.ensures.items ∙ ap (λ x. x ++ l ∷ []) c.reserve.ensures.items) refl refl
    (sound-label s.labels s.nodes.shown s.nodes.nodes s.edge_count s.node_count s.label_numbers.items s.pairs s.relabel_numbers.items c.self.invariant new.nodes c.reserve_node.ensures.same t l text spare)

pub returns-clause-graph : goal.returns-clause-graph
returns-clause-graph c =
    let s = c.self.inside in
    let new = c.reserve_node.new.self in
    ap (λ x. graph_by x new.shown new.nodes) c.in_ok-number.ensures.ahead
    ∙ ap (λ n. graph_by s.labels n new.nodes) c.reserve_node.ensures.shown ∙ graph-same s.labels s.nodes.shown s.nodes.nodes new.nodes c.reserve_node.ensures.same ∙ ap (λ h. h.graph) c.self.view_is

pub returns-clause-ok : goal.returns-clause-ok
returns-clause-ok c =
    let s = c.self.inside in
    let t = c.args.label.now in
    let l = c.in_ok-number.number in
    let text = ap (λ x. slice_get (entries x) l) (sym c.in_ok-number.ensures.ahead) ∙ c.in_ok-number.ensures.number in
    ap (λ x. reserved_by x c.push_reserved.new.self.items s.pairs s.relabel_numbers.items) c.in_ok-number.ensures.ahead
    ∙ ap (λ n. reserved_by (with_ahead s.labels t) n s.pairs s.relabel_numbers.items) (c.push_reserved.ensures.items ∙ ap (λ x. x ++ l ∷ []) c.reserve.ensures.items)
    ∙ label-reserved s.labels t l text s.label_numbers.items s.pairs s.relabel_numbers.items c.self.invariant.reserved.labels c.self.invariant.reserved.relabels
    ∙ ap (λ h. with_reserved_label h.reserved t) c.self.view_is
