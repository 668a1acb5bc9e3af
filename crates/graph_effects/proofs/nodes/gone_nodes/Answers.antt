use Rattle.std.proofs.Common.{◌∙◌, ap, sym, List, ℕ, subst}
use Rattle.graph_spec.specs.Graphs.{Graph}
use Rattle.graph_spec.specs.Members.{Lists}
use Rattle.graph_steps.specs.StepLists.{steps_of}
use Rattle.graph_update.specs.PendingChanges.{graph_after}
use Rattle.graph_effects.specs.Effects.{is_new_node}
use Rattle.graph_effects.specs.StepEffects.{gone_with}
use Rattle.graph_effects.proofs.GoneNodes.{gone_are, new_can}
use Rattle.graph_effects.proofs.nodes.gone_nodes.Goals as goal

pub returns : goal.returns
returns c =
    let a = c.args.after.now in
    subst (λ (xs : List ℕ). Lists (is_new_node (graph_after a) a.before) xs)
    (sym (c.in_ok-nodes.ensures ∙ ap (λ (g : Graph). gone_with g (steps_of c.args.steps.now)) (sym c.requires.graph) ∙ ap (gone_with a.before) (sym c.requires.same)))
    (gone_are a.change a.before (new_can a.change a.before c.created-known.ensures.new))
