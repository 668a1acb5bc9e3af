use Rattle.std.proofs.Common.{◌∙◌, ap, subst}
use Rattle.graph_spec.specs.Members.{has}
use Rattle.graph_update.specs.PendingChanges.{graph_after}
use Rattle.one_update.specs.UnsteadyNodes.{AreUnkept, unsteady_nodes}
use Rattle.one_update.proofs.unsteady.unsteady.Goals as goal

pub returns-clause-same : goal.returns-clause-same
returns-clause-same g c = record {
  left = c.in_ok-left.left.items;
  unkept = subst (λ lost. AreUnkept (graph_after c.args.after.now) c.args.base.now.blocks.block_of lost c.in_ok-left.left.items) c.lost.ensures c.in_ok-left.ensures.unkept;
  same = λ n.
      c.keep_once.ensures.same n ∙ ap (λ xs. has xs n) c.in_ok-list.ensures
      ∙ ap (λ left. has (unsteady_nodes c.args.base.now (graph_after c.args.after.now) c.args.effects.now left) n) c.deref.ensures.value;
}
