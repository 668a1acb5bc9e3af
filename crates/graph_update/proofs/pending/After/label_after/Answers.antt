use Rattle.std.proofs.Common.{◌≡◌, ◌∙◌, ap, sym, subst}
use Rattle.std.specs.Prelude.{IsTrue, option_map}
use Rattle.std.specs.Option.{option_or}
use Rattle.graph_spec.specs.Graphs.{is_live, label_of}
use Rattle.change_spec.specs.Steps.{after}
use Rattle.change_spec.specs.Places.{CanMakeAll}
use Rattle.graph_update.specs.PendingChanges.{Pending, graph_after}
use Rattle.graph_update.proofs.PendingLaws.{new_can}
use Rattle.graph_update.proofs.pending.After.label_after.Goals as goal

pub label_after-requires-clause-can : goal.label_after-requires-clause-can
label_after-requires-clause-can c =
    subst (λ k. CanMakeAll k c.self.inside.graph.now.graph) (sym c.as_prefix.ensures) (new_can c.self.inside.change.now c.self.inside.graph.now.graph c.self.invariant.new)

pub label_after-requires-clause-live : goal.label_after-requires-clause-live
label_after-requires-clause-live c =
    subst (λ k. IsTrue (is_live (after k c.self.inside.graph.now.graph) c.args.n)) (sym c.as_prefix.ensures)
    (subst (λ (q : Pending). IsTrue (is_live (graph_after q) c.args.n)) (sym c.self.view_is) c.requires.live)

pub returns : goal.returns
returns c =
    let g = c.self.inside.graph.now.graph in
    let n = c.args.n in
    subst (λ (q : Pending). label_of (graph_after q) n ≡ option_or (option_map (λ t. t.now) c.label_after.result) (label_of q.before n)) c.self.view_is
    (ap (λ k. label_of (after k g) n) (sym c.as_prefix.ensures) ∙ c.label_after.ensures)
