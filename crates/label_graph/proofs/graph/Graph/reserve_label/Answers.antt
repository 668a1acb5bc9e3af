use Rattle.std.proofs.Common.{ap, sym, ◌∙◌, refl, [], ◌∷◌, ◌++◌}
use Rattle.std.specs.Prelude.{slice_get}
use Rattle.label_graph.specs.LabelTable.{with_ahead, entries}
use Rattle.label_graph.specs.ReservedGraphs.{graph_by, reserved_by, with_reserved_relabel}
use Rattle.label_graph.proofs.KeepsSound.{same-nodes, sound-relabel}
use Rattle.label_graph.proofs.Additions.{on-err, sound-as, view-as}
use Rattle.label_graph.proofs.ReservedLabels.{relabel-reserved}
use Rattle.label_graph.proofs.graph.Graph.reserve_label.Goals as goal

pub invariant_of-self-in_err-number : goal.invariant_of-self-in_err-number
invariant_of-self-in_err-number c =
    let s = c.self.inside in
    sound-as s.labels c.reserve-2.new.self s.nodes.shown s.nodes.shown s.nodes.nodes s.edge_count s.node_count s.label_numbers.items s.label_numbers.items s.pairs s.pairs
    s.relabel_numbers.items c.reserve.new.self.items c.in_err-number.ensures.err refl refl refl c.reserve.ensures.items c.self.invariant

pub returns-in_err-number-clause-graph : goal.returns-in_err-number-clause-graph
returns-in_err-number-clause-graph c =
    let s = c.self.inside in
    ap (λ x. graph_by x s.nodes.shown s.nodes.nodes) c.in_err-number.ensures.err ∙ ap (λ h. h.graph) c.self.view_is

pub returns-in_err-number-clause-err : goal.returns-in_err-number-clause-err
returns-in_err-number-clause-err c =
    let s = c.self.inside in
    on-err c.from_residual-in_err-number.result
    (view-as s.labels c.reserve-2.new.self s.nodes.shown s.nodes.shown s.nodes.nodes s.label_numbers.items s.label_numbers.items s.pairs s.pairs
    s.relabel_numbers.items c.reserve.new.self.items c.in_err-number.ensures.err refl refl refl c.reserve.ensures.items ∙ c.self.view_is)

pub invariant_of-self-2 : goal.invariant_of-self-2
invariant_of-self-2 c =
    let s = c.self.inside in
    let t = c.args.label.now in
    let l = c.in_ok-number.number in
    let text = ap (λ x. slice_get (entries x) l) (sym c.in_ok-number.ensures.ahead) ∙ c.in_ok-number.ensures.number in
    sound-as (with_ahead s.labels t) c.reserve-2.new.self s.nodes.shown s.nodes.shown s.nodes.nodes s.edge_count s.node_count s.label_numbers.items s.label_numbers.items s.pairs s.pairs
    (s.relabel_numbers.items ++ l ∷ []) c.push_reserved.new.self.items
    c.in_ok-number.ensures.ahead refl refl refl (c.push_reserved.ensures.items ∙ ap (λ x. x ++ l ∷ []) c.reserve.ensures.items)
    (sound-relabel s.labels s.nodes.shown s.nodes.nodes s.edge_count s.node_count s.label_numbers.items s.pairs s.relabel_numbers.items c.self.invariant
    s.nodes.nodes (same-nodes s.nodes.shown s.nodes.nodes) t l text)

pub returns-clause-graph : goal.returns-clause-graph
returns-clause-graph c =
    let s = c.self.inside in
    ap (λ x. graph_by x s.nodes.shown s.nodes.nodes) c.in_ok-number.ensures.ahead ∙ ap (λ h. h.graph) c.self.view_is

pub returns-clause-ok : goal.returns-clause-ok
returns-clause-ok c =
    let s = c.self.inside in
    let t = c.args.label.now in
    let l = c.in_ok-number.number in
    let text = ap (λ x. slice_get (entries x) l) (sym c.in_ok-number.ensures.ahead) ∙ c.in_ok-number.ensures.number in
    ap (λ x. reserved_by x s.label_numbers.items s.pairs c.push_reserved.new.self.items) c.in_ok-number.ensures.ahead
    ∙ ap (reserved_by (with_ahead s.labels t) s.label_numbers.items s.pairs) (c.push_reserved.ensures.items ∙ ap (λ x. x ++ l ∷ []) c.reserve.ensures.items)
    ∙ relabel-reserved s.labels t l text s.label_numbers.items s.pairs s.relabel_numbers.items c.self.invariant.reserved.labels c.self.invariant.reserved.relabels
    ∙ ap (λ h. with_reserved_relabel h.reserved t) c.self.view_is
