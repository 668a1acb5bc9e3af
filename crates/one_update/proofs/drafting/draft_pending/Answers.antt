use Rattle.std.proofs.Common.{◌∙◌, ap, sym, length, List}
use Rattle.change_spec.specs.Steps.{Step}
use Rattle.graph_update.specs.PendingChanges.{graph_after}
use Rattle.one_update.proofs.PendingChanges.{many_move}
use Rattle.one_update.proofs.drafting.draft_pending.Goals as goal

pub draft_steps-requires-clause-moves : goal.draft_steps-requires-clause-moves
draft_steps-requires-clause-moves g c =
    many_move c.args.after.now.change (graph_after c.args.after.now) c.args.base.now.blocks.block_of
    (λ e. c.in-None.ensures.none (ap (λ (xs : List Step). length xs) (c.steps.ensures ∙ sym c.requires.same) ∙ e))
