use Rattle.std.proofs.Common.{◌∙◌, ◌++◌, ap, sym, List, ℕ, subst}
use Rattle.graph_spec.specs.Members.{Lists}
use Rattle.graph_update.specs.PendingChanges.{graph_after}
use Rattle.graph_effects.specs.Effects.{is_relabelled}
use Rattle.graph_effects.specs.StepEffects.{relabelled_where}
use Rattle.graph_effects.proofs.GoneNodes.{new_can}
use Rattle.graph_effects.proofs.Relabelled.{relabelled_are}
use Rattle.graph_effects.proofs.relabelling.relabelled_nodes.Goals as goal

pub returns : goal.returns
returns c =
    let a = c.args.after.now in
    subst (λ (xs : List ℕ). Lists (is_relabelled a.before (graph_after a)) xs)
    (sym (c.in_ok-note_all.ensures ∙ ap (λ (xs : List ℕ). xs ++ relabelled_where (is_relabelled a.before (graph_after a)) c.args.change.now) c.new-nodes.ensures.items
    ∙ ap (relabelled_where (is_relabelled a.before (graph_after a))) (sym c.requires.same)))
    (relabelled_are a.change a.before (new_can a.change a.before c.created-known.ensures.new))
