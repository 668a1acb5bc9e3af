use Rattle.std.proofs.Common.{◌∙◌, ◌++◌, ap, sym, List, ℕ, get_or}
use Rattle.std.proofs.lemmas.List.{append-nil, take_all}
use Rattle.graph_update.specs.PendingChanges.{graph_after}
use Rattle.graph_effects.specs.StepEffects.{pair_if, edges_from_live}
use Rattle.graph_effects.proofs.GoneEdges.{onto_next}
use Rattle.graph_effects.proofs.edges.lose_parents.Goals as goal

pub loop-i-init : goal.loop-i-init
loop-i-init c = sym (append-nil c.args.lost.now.items)

pub loop-i-preserved : goal.loop-i-preserved
loop-i-preserved c =
    onto_next (graph_after c.args.after.now) c.args.u c.args.parents.now c.loop-i.i c.args.lost.now.items c.loop-i.lost.items c.note_if.new.edges.items c.loop-i-test.true
    c.loop-i.invariant (c.in_ok-note_if.ensures ∙ ap (λ b. c.loop-i.lost.items ++ pair_if b (get_or c.args.parents.now c.loop-i.i 0, c.args.u)) c.is_live.ensures)

pub returns : goal.returns
returns c =
    c.loop-i.invariant ∙ ap (λ (ps : List ℕ). c.args.lost.now.items ++ edges_from_live (graph_after c.args.after.now) c.args.u ps) (take_all c.loop-i.i c.args.parents.now c.loop-i-test.false)
