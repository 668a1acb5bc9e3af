use Rattle.std.proofs.Common.{subst, sym, ap, ◌∙◌, refl, map, Some, IsTrue}
use Rattle.std.specs.Prelude.{slice_set, is_some}
use Rattle.std.proofs.lemmas.Option.{slice_get_within}
use Rattle.graph_spec.specs.Graphs.{is_live, is_seen}
use Rattle.change_spec.specs.Steps.{labelled}
use Rattle.label_graph.specs.LabelTable.{entries, with_shown, renumbered, without_number}
use Rattle.label_graph.specs.Nodes.{labels_of}
use Rattle.label_graph.specs.ReservedGraphs.{FitsLabels, graph_by, reserved_by, without_reserved_relabel}
use Rattle.label_graph.proofs.Positions.{text-at}
use Rattle.label_graph.proofs.Additions.{live-number, sound-as}
use Rattle.label_graph.proofs.GoneNodes.{live-shown}
use Rattle.label_graph.proofs.TakenNumbers.{text-found, number-there, few-shown}
use Rattle.label_graph.proofs.NewLabels.{sound-labelled, graph-labelled, reserved-labelled}
use Rattle.label_graph.proofs.graph.Graph.set_label.Goals as goal

pub unwrap-entry-requires : goal.unwrap-entry-requires
unwrap-entry-requires c =
    let s = c.self.inside in
    let t = c.args.label.now in
    ap is_some c.entry.ensures
    ∙ text-found s.labels t s.relabel_numbers.items c.self.invariant.reserved.relabels (subst (λ h. IsTrue (is_seen h.reserved.relabels t)) (sym c.self.view_is) c.requires.reserved)

pub take_number-requires : goal.take_number-requires
take_number-requires c =
    let s = c.self.inside in
    let t = c.args.label.now in
    let l = c.unwrap-entry.result in
    let is = text-at t (entries s.labels) l (sym c.entry.ensures ∙ c.unwrap-entry.ensures) in
    sym (number-there s.labels t l c.self.invariant.labels.once is s.relabel_numbers.items c.self.invariant.reserved.relabels)
    ∙ subst (λ h. IsTrue (is_seen h.reserved.relabels t)) (sym c.self.view_is) c.requires.reserved

pub show-number-requires-clause-few : goal.show-number-requires-clause-few
show-number-requires-clause-few c =
    let s = c.self.inside in
    let t = c.args.label.now in
    let l = c.unwrap-entry.result in
    let is = text-at t (entries s.labels) l (sym c.entry.ensures ∙ c.unwrap-entry.ensures) in
    few-shown s.labels t l c.self.invariant.labels.once is (subst (λ h. FitsLabels h.graph t) (sym c.self.view_is) c.requires.few_labels)

pub show-number-requires-clause-entry : goal.show-number-requires-clause-entry
show-number-requires-clause-entry c =
    let s = c.self.inside in
    let t = c.args.label.now in
    let l = c.unwrap-entry.result in
    let is = text-at t (entries s.labels) l (sym c.entry.ensures ∙ c.unwrap-entry.ensures) in
    slice_get_within (entries s.labels) l t is

pub write_label-requires : goal.write_label-requires
write_label-requires c =
    let s = c.self.inside in
    live-shown s.nodes.shown s.nodes.nodes c.args.u (live-number s.labels s.nodes.shown s.nodes.nodes c.args.u (ap (λ h. is_live h.graph c.args.u) c.self.view_is ∙ c.requires.live))

pub invariant_of-self : goal.invariant_of-self
invariant_of-self c =
    let s = c.self.inside in
    let t = c.args.label.now in
    let l = c.unwrap-entry.result in
    let is = text-at t (entries s.labels) l (sym c.entry.ensures ∙ c.unwrap-entry.ensures) in
    let u = c.args.u in
    let new = c.write_label.new.self in
    let live = ap (λ h. is_live h.graph u) c.self.view_is ∙ c.requires.live in
    let labels =
    ap (λ n. labels_of n new.nodes) (sym c.write_label.ensures.shown) ∙ c.write_label.ensures.labels
    ∙ ap (λ k. slice_set (labels_of s.nodes.shown s.nodes.nodes) u (Some k)) c.show-number.ensures.number in
    let left = c.show-number.ensures.relabels ∙ ap (map (renumbered s.labels l)) c.take_number.ensures in
    sound-as (with_shown s.labels l) c.show-number.new.labels s.nodes.shown new.shown new.nodes s.edge_count s.node_count (map (renumbered s.labels l) s.label_numbers.items) c.show-number.new.numbers.items
    s.pairs s.pairs (map (renumbered s.labels l) (without_number s.relabel_numbers.items l)) c.show-number.new.relabels.items
    c.show-number.ensures.shown c.write_label.ensures.shown c.show-number.ensures.numbers refl left
    (sound-labelled s.labels s.nodes.shown s.nodes.nodes new.nodes s.edge_count s.node_count u l t s.label_numbers.items s.pairs s.relabel_numbers.items c.self.invariant
    (slice_get_within (entries s.labels) l t is) is live labels c.write_label.ensures.children c.write_label.ensures.parents c.write_label.ensures.reserved)

pub returns-clause-graph : goal.returns-clause-graph
returns-clause-graph c =
    let s = c.self.inside in
    let t = c.args.label.now in
    let l = c.unwrap-entry.result in
    let is = text-at t (entries s.labels) l (sym c.entry.ensures ∙ c.unwrap-entry.ensures) in
    let u = c.args.u in
    let new = c.write_label.new.self in
    let live = ap (λ h. is_live h.graph u) c.self.view_is ∙ c.requires.live in
    let labels =
    ap (λ n. labels_of n new.nodes) (sym c.write_label.ensures.shown) ∙ c.write_label.ensures.labels
    ∙ ap (λ k. slice_set (labels_of s.nodes.shown s.nodes.nodes) u (Some k)) c.show-number.ensures.number in
    let left = c.show-number.ensures.relabels ∙ ap (map (renumbered s.labels l)) c.take_number.ensures in
    ap (λ x. graph_by x new.shown new.nodes) c.show-number.ensures.shown ∙ ap (λ n. graph_by (with_shown s.labels l) n new.nodes) c.write_label.ensures.shown
    ∙ graph-labelled s.labels s.nodes.shown s.nodes.nodes new.nodes s.edge_count s.node_count u l t s.label_numbers.items s.pairs s.relabel_numbers.items c.self.invariant
    (slice_get_within (entries s.labels) l t is) is live labels c.write_label.ensures.children c.write_label.ensures.parents c.write_label.ensures.reserved
    ∙ ap (λ h. labelled h.graph u t) c.self.view_is

pub returns-clause-reserved : goal.returns-clause-reserved
returns-clause-reserved c =
    let s = c.self.inside in
    let t = c.args.label.now in
    let l = c.unwrap-entry.result in
    let is = text-at t (entries s.labels) l (sym c.entry.ensures ∙ c.unwrap-entry.ensures) in
    let u = c.args.u in
    let new = c.write_label.new.self in
    let live = ap (λ h. is_live h.graph u) c.self.view_is ∙ c.requires.live in
    let labels =
    ap (λ n. labels_of n new.nodes) (sym c.write_label.ensures.shown) ∙ c.write_label.ensures.labels
    ∙ ap (λ k. slice_set (labels_of s.nodes.shown s.nodes.nodes) u (Some k)) c.show-number.ensures.number in
    let left = c.show-number.ensures.relabels ∙ ap (map (renumbered s.labels l)) c.take_number.ensures in
    (λ i. reserved_by (c.show-number.ensures.shown i) (c.show-number.ensures.numbers i) s.pairs (left i))
    ∙ reserved-labelled s.labels s.nodes.shown s.nodes.nodes new.nodes s.edge_count s.node_count u l t s.label_numbers.items s.pairs s.relabel_numbers.items c.self.invariant
    (slice_get_within (entries s.labels) l t is) is live labels c.write_label.ensures.children c.write_label.ensures.parents c.write_label.ensures.reserved
    ∙ ap (λ h. without_reserved_relabel h.reserved t) c.self.view_is
