use Rattle.std.proofs.Common.{sym, ◌∙◌, arith}
use Rattle.graph_update.specs.PendingChanges.{graph_after}
use Rattle.one_update.proofs.PendingChanges.{parent_yes, parent_no, parents_few}
use Rattle.one_update.proofs.linking.has_parent_in.Goals as goal

pub returns-clause-yes : goal.returns-clause-yes
returns-clause-yes g c = λ h. parent_yes (graph_after c.args.after.now) c.args.base.now.blocks.block_of c.args.v c.args.b _ c.parents-parents.ensures.parents (sym c.any_in.ensures ∙ h)

pub returns-clause-no : goal.returns-clause-no
returns-clause-no g c = λ h. parent_no (graph_after c.args.after.now) c.args.base.now.blocks.block_of c.args.v c.args.b _ c.parents-parents.ensures.parents (sym c.any_in.ensures ∙ h)

pub returns-clause-cost : goal.returns-clause-cost
returns-clause-cost g c =
    let few = parents_few (graph_after c.args.after.now) c.args.v _ c.requires.before.graph_after c.parents-parents.ensures.parents in
    let cost = c.parents-parents.ensures.cost in
    omega (arith, few, cost)
