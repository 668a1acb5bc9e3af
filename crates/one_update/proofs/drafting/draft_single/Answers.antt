use Rattle.std.proofs.Common.{◌∙◌, ap, []}
use Rattle.std.specs.Prelude.{◌∷◌}
use Rattle.graph_steps.specs.StepLists.{step_of}
use Rattle.graph_steps.specs.declared.changes.Step.{Step as Asked}
use Rattle.graph_update.specs.PendingChanges.{graph_after}
use Rattle.quotient.specs.Quotients.{view_of}
use Rattle.one_update.proofs.SingleSteps.{node_moves, drop_moves, relabel_moves, node_no_link, unlink_no_link, drop_no_link, relabel_no_link, same_link}
use Rattle.one_update.proofs.drafting.draft_single.Goals as goal

pub draft_steps-requires-clause-moves : goal.draft_steps-requires-clause-moves
draft_steps-requires-clause-moves g c =
    node_moves c.args.after.now.change c.in-Node.field-0 (graph_after c.args.after.now) c.args.base.now.blocks.block_of
    (c.requires.single ∙ ap (λ (s : Asked). step_of s ∷ []) c.in-Node.is)

pub draft_steps-requires-in-Drop-clause-moves : goal.draft_steps-requires-in-Drop-clause-moves
draft_steps-requires-in-Drop-clause-moves g c =
    drop_moves c.args.after.now.change c.in-Drop.field-0 (graph_after c.args.after.now) c.args.base.now.blocks.block_of
    (c.requires.single ∙ ap (λ (s : Asked). step_of s ∷ []) c.in-Drop.is)

pub draft_steps-requires-in-Relabel-clause-moves : goal.draft_steps-requires-in-Relabel-clause-moves
draft_steps-requires-in-Relabel-clause-moves g c =
    relabel_moves c.args.after.now.change c.in-Relabel.field-0 c.in-Relabel.field-1 (graph_after c.args.after.now) c.args.base.now.blocks.block_of
    (c.requires.single ∙ ap (λ (s : Asked). step_of s ∷ []) c.in-Relabel.is)

pub add_edge-requires-clause-links : goal.add_edge-requires-clause-links
add_edge-requires-clause-links g c = c.requires.single ∙ ap (λ (s : Asked). step_of s ∷ []) c.in-Link.is

pub drop_edge-requires-clause-unlinks : goal.drop_edge-requires-clause-unlinks
drop_edge-requires-clause-unlinks g c = c.requires.single ∙ ap (λ (s : Asked). step_of s ∷ []) c.in-Unlink.is

pub returns-in-Node-clause-free : goal.returns-in-Node-clause-free
returns-in-Node-clause-free g c = λ u v e s.
    absurd (node_no_link c.args.after.now.change c.in-Node.field-0 u v (c.requires.single ∙ ap (λ (s : Asked). step_of s ∷ []) c.in-Node.is) e)

pub returns-in-Link-clause-free : goal.returns-in-Link-clause-free
returns-in-Link-clause-free g c = λ u v e s.
    c.add_edge.ensures.free
    (same_link c.args.after.now.change (view_of c.args.base.now) c.in-Link.u c.in-Link.v u v (c.requires.single ∙ ap (λ (s : Asked). step_of s ∷ []) c.in-Link.is) e s)

pub returns-in-Unlink-clause-free : goal.returns-in-Unlink-clause-free
returns-in-Unlink-clause-free g c = λ u v e s.
    absurd (unlink_no_link c.args.after.now.change c.in-Unlink.u c.in-Unlink.v u v (c.requires.single ∙ ap (λ (s : Asked). step_of s ∷ []) c.in-Unlink.is) e)

pub returns-in-Drop-clause-free : goal.returns-in-Drop-clause-free
returns-in-Drop-clause-free g c = λ u v e s.
    absurd (drop_no_link c.args.after.now.change c.in-Drop.field-0 u v (c.requires.single ∙ ap (λ (s : Asked). step_of s ∷ []) c.in-Drop.is) e)

pub returns-in-Relabel-clause-free : goal.returns-in-Relabel-clause-free
returns-in-Relabel-clause-free g c = λ u v e s.
    absurd (relabel_no_link c.args.after.now.change c.in-Relabel.field-0 c.in-Relabel.field-1 u v (c.requires.single ∙ ap (λ (s : Asked). step_of s ∷ []) c.in-Relabel.is) e)
