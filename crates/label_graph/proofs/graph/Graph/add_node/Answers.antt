use Rattle.std.proofs.Common.{subst, sym, ap, ◌∙◌, arith, refl, length, map, get_or, [], ◌∷◌, ◌++◌, ◌<◌, ◌+◌, ◌^◌, ◌≡◌, Some}
use Rattle.std.proofs.lemmas.List.{length-map}
use Rattle.std.proofs.lemmas.Option.{slice_get-get_or}
use Rattle.graph_spec.specs.Changes.{with_node}
use Rattle.label_graph.specs.LabelTable.{entries, with_shown, renumbered}
use Rattle.label_graph.specs.Nodes.{labels_of}
use Rattle.label_graph.specs.ReservedGraphs.{FirstFitsLabels, entry_texts}
use Rattle.label_graph.specs.Soundness.{IsSoundGraph}
use Rattle.label_graph.proofs.Additions.{allocated-shown, sound-as, view-as, view-both}
use Rattle.label_graph.proofs.ReservedLabels.{first-label}
use Rattle.label_graph.proofs.TakenNumbers.{few-shown}
use Rattle.label_graph.proofs.NewNodes.{sound-node, node-added, label-taken}
use Rattle.label_graph.proofs.graph.Graph.add_node.Goals as goal

pub show-number-requires-clause-entry : goal.show-number-requires-clause-entry
show-number-requires-clause-entry c =
    let s = c.self.inside in
    let l = c.remove-label.result in
    let ls = c.remove-label.new.self.items in
    let some : 0 < length s.label_numbers.items = omega (arith, c.requires.reserved, ap (λ h. length h.reserved.labels) c.self.view_is, length-map s.label_numbers.items (λ n. get_or (entries s.labels) n [])) in
    let is : s.label_numbers.items ≡ l ∷ ls = first-label s.label_numbers.items ls l some c.remove-label.ensures.value c.remove-label.ensures.items in
    let sound = subst (λ n. IsSoundGraph s.labels s.nodes.shown s.nodes.nodes s.edge_count s.node_count n s.pairs s.relabel_numbers.items) is c.self.invariant in
    sound.reserved.labels.0

pub show-number-requires-clause-few : goal.show-number-requires-clause-few
show-number-requires-clause-few c =
    let s = c.self.inside in
    let l = c.remove-label.result in
    let ls = c.remove-label.new.self.items in
    let some : 0 < length s.label_numbers.items = omega (arith, c.requires.reserved, ap (λ h. length h.reserved.labels) c.self.view_is, length-map s.label_numbers.items (λ n. get_or (entries s.labels) n [])) in
    let is : s.label_numbers.items ≡ l ∷ ls = first-label s.label_numbers.items ls l some c.remove-label.ensures.value c.remove-label.ensures.items in
    let sound = subst (λ n. IsSoundGraph s.labels s.nodes.shown s.nodes.nodes s.edge_count s.node_count n s.pairs s.relabel_numbers.items) is c.self.invariant in
    let t = get_or (entries s.labels) l [] in
    few-shown s.labels t l sound.labels.once (slice_get-get_or (entries s.labels) l [] sound.reserved.labels.0)
    (subst FirstFitsLabels (sym c.self.view_is) c.requires.few_labels t (entry_texts s.labels ls) (ap (entry_texts s.labels) is))

pub invariant_of-self : goal.invariant_of-self
invariant_of-self c =
    let s = c.self.inside in
    let l = c.remove-label.result in
    let ls = c.remove-label.new.self.items in
    let some : 0 < length s.label_numbers.items = omega (arith, c.requires.reserved, ap (λ h. length h.reserved.labels) c.self.view_is, length-map s.label_numbers.items (λ n. get_or (entries s.labels) n [])) in
    let is : s.label_numbers.items ≡ l ∷ ls = first-label s.label_numbers.items ls l some c.remove-label.ensures.value c.remove-label.ensures.items in
    let sound = subst (λ n. IsSoundGraph s.labels s.nodes.shown s.nodes.nodes s.edge_count s.node_count n s.pairs s.relabel_numbers.items) is c.self.invariant in
    let new = c.push_node.new.self in
    let labels =
    ap (λ n. labels_of n new.nodes) (sym c.push_node.ensures.shown) ∙ c.push_node.ensures.labels ∙ ap (λ k. labels_of s.nodes.shown s.nodes.nodes ++ Some k ∷ []) c.show-number.ensures.number in
    let few = subst (λ h. length h.graph.allocated < 2 ^ 30) (sym c.self.view_is) c.requires.few in
    let fewer : s.nodes.shown < 2 ^ 30 = omega (arith, few, allocated-shown s.labels s.nodes.shown s.nodes.nodes (omega (arith, c.self.invariant.reserved.rows))) in
    sound-as (with_shown s.labels l) c.show-number.new.labels (s.nodes.shown + 1) new.shown new.nodes s.edge_count (s.node_count + 1) (map (renumbered s.labels l) ls) c.show-number.new.numbers.items
    s.pairs s.pairs (map (renumbered s.labels l) s.relabel_numbers.items) c.show-number.new.relabels.items
    c.show-number.ensures.shown c.push_node.ensures.shown c.show-number.ensures.numbers refl c.show-number.ensures.relabels
    (sound-node s.labels s.nodes.shown s.nodes.nodes new.nodes s.edge_count s.node_count l ls s.pairs s.relabel_numbers.items sound labels
    c.push_node.ensures.children c.push_node.ensures.parents c.push_node.ensures.reserved fewer)

pub returns-clause-added : goal.returns-clause-added
returns-clause-added c t more e =
    let s = c.self.inside in
    let l = c.remove-label.result in
    let ls = c.remove-label.new.self.items in
    let some : 0 < length s.label_numbers.items = omega (arith, c.requires.reserved, ap (λ h. length h.reserved.labels) c.self.view_is, length-map s.label_numbers.items (λ n. get_or (entries s.labels) n [])) in
    let is : s.label_numbers.items ≡ l ∷ ls = first-label s.label_numbers.items ls l some c.remove-label.ensures.value c.remove-label.ensures.items in
    let sound = subst (λ n. IsSoundGraph s.labels s.nodes.shown s.nodes.nodes s.edge_count s.node_count n s.pairs s.relabel_numbers.items) is c.self.invariant in
    let new = c.push_node.new.self in
    let labels =
    ap (λ n. labels_of n new.nodes) (sym c.push_node.ensures.shown) ∙ c.push_node.ensures.labels ∙ ap (λ k. labels_of s.nodes.shown s.nodes.nodes ++ Some k ∷ []) c.show-number.ensures.number in
    let texts : entry_texts s.labels (l ∷ ls) ≡ t ∷ more = ap (entry_texts s.labels) (sym is) ∙ ap (λ h. h.reserved.labels) c.self.view_is ∙ e in
    view-as (with_shown s.labels l) c.show-number.new.labels (s.nodes.shown + 1) new.shown new.nodes (map (renumbered s.labels l) ls) c.show-number.new.numbers.items
    s.pairs s.pairs (map (renumbered s.labels l) s.relabel_numbers.items) c.show-number.new.relabels.items
    c.show-number.ensures.shown c.push_node.ensures.shown c.show-number.ensures.numbers refl c.show-number.ensures.relabels
    ∙ view-both _ _ _ _
    (node-added s.labels s.nodes.shown s.nodes.nodes new.nodes s.edge_count s.node_count l ls s.pairs s.relabel_numbers.items sound labels
    c.push_node.ensures.children c.push_node.ensures.parents c.push_node.ensures.reserved t more texts)
    (label-taken s.labels s.nodes.shown s.nodes.nodes new.nodes s.edge_count s.node_count l ls s.pairs s.relabel_numbers.items sound labels
    c.push_node.ensures.children c.push_node.ensures.parents c.push_node.ensures.reserved t more texts)
    ∙ ap (λ h. record { graph = with_node h.graph t; reserved = record h.reserved { labels = more } }) c.self.view_is
