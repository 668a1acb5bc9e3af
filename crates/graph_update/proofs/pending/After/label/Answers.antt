use Rattle.std.proofs.Common.{◌≡◌, ◌∙◌, ap, sym, subst, arith, length, Some, true}
use Rattle.std.specs.Prelude.{IsTrue, is_some, option_map}
use Rattle.std.specs.Option.{option_or}
use Rattle.graph_spec.specs.Graphs.{is_live, is_seen, label_of}
use Rattle.label_graph.specs.GraphViews.{label_number}
use Rattle.graph_update.specs.PendingChanges.{Pending, graph_after}
use Rattle.graph_update.proofs.PendingLaws.{new_graph}
use Rattle.graph_update.proofs.LabelLaws.{number_kept, number_text, number_is, new_labels}
use Rattle.graph_update.proofs.pending.After.label.Goals as goal

pub label-requires : goal.label-requires
label-requires c =
    let p = c.args.self.now in
    let n = c.args.n in
    let same = c.label_after.ensures ∙ ap (λ o. option_or (option_map (λ t. t.now) o) (label_of p.before n)) c.in-None.is in
    record { live = subst (λ (q : Pending). IsTrue (is_live q.before n)) (sym c.self.view_is) (ap is_some (sym same) ∙ c.requires.live) }

pub returns-in-None-clause-number : goal.returns-in-None-clause-number
returns-in-None-clause-number c =
    let p = c.args.self.now in
    let n = c.args.n in
    let same = c.label_after.ensures ∙ ap (λ o. option_or (option_map (λ t. t.now) o) (label_of p.before n)) c.in-None.is in
    number_kept p.change p.before n c.label.result same (subst (λ (q : Pending). label_number q.before n ≡ Some c.label.result) c.self.view_is c.label.ensures.number)

pub returns-in-None-clause-text : goal.returns-in-None-clause-text
returns-in-None-clause-text c = number_text (graph_after c.args.self.now) c.args.n c.label.result (returns-in-None-clause-number c)

pub number_of-requires-clause-seen : goal.number_of-requires-clause-seen
number_of-requires-clause-seen c =
    let p = c.args.self.now in
    let g = c.self.inside.graph.now.graph in
    let n = c.args.n in
    let t = c.in-Some.label.now in
    let named = c.label_after.ensures ∙ ap (λ o. option_or (option_map (λ t. t.now) o) (label_of p.before n)) c.in-Some.is in
    subst (λ (q : Pending). is_seen (graph_after q).seen t ≡ true) c.self.view_is
    ((new_graph c.self.inside.change.now g c.self.invariant.new c.self.invariant.sound).labelled n t
    (subst (λ (q : Pending). label_of (graph_after q) n ≡ Some t) (sym c.self.view_is) named))

pub number_of-requires-clause-few : goal.number_of-requires-clause-few
number_of-requires-clause-few c =
    let g = c.self.inside.graph.now.graph in
    let count = c.len-known.ensures.count in
    let fits = c.len-known.type_inv in
    let seen = ap length c.self.invariant.seen in
    let law = new_labels c.self.inside.change.now g c.self.invariant.new (omega (arith, count, fits, seen)) in
    let same = ap (λ (q : Pending). length (graph_after q).seen) c.self.view_is in
    omega (arith, law, same)

pub returns-in-Some-clause-number : goal.returns-in-Some-clause-number
returns-in-Some-clause-number c =
    let p = c.args.self.now in
    let n = c.args.n in
    let t = c.in-Some.label.now in
    let named = c.label_after.ensures ∙ ap (λ o. option_or (option_map (λ t. t.now) o) (label_of p.before n)) c.in-Some.is in
    number_is (graph_after p) n c.number_of.result t named c.number_of.ensures

pub returns-in-Some-clause-text : goal.returns-in-Some-clause-text
returns-in-Some-clause-text c = number_text (graph_after c.args.self.now) c.args.n c.number_of.result (returns-in-Some-clause-number c)
