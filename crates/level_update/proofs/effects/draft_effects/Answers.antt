use Rattle.std.proofs.Common.{ℕ, List, length, sym, ◌∙◌, ap, arith}
use Rattle.std.specs.List.{sum_by}
use Rattle.graph_spec.specs.Members.{has}
use Rattle.graph_update.specs.PendingChanges.{graph_after}
use Rattle.graph_effects.proofs.EffectEnds.{ends_live}
use Rattle.level_update.specs.LevelCosts.{move_cost, affected_cost}
use Rattle.level_update.specs.LevelEffects.{lone_nodes}
use Rattle.level_update.proofs.EffectLevels.{levels_moving}
use Rattle.level_update.proofs.EffectTargets.{lone_ends, still_moved, relabels_most}
use Rattle.level_update.proofs.NearLevels.{ends_apart, levels_near}
use Rattle.level_update.proofs.RelabelledLevels.{draft_most}
use Rattle.level_update.proofs.effects.draft_effects.Goals as goal

pub returns-in_err-draft_levels-clause-cost : goal.returns-in_err-draft_levels-clause-cost
returns-in_err-draft_levels-clause-cost g c = λ k e.
    let a = c.args.after.now in
    let f = c.args.effects.now in
    let each = relabels_most c.args.sides a f c.args.ends.now k c.created-known.ensures.new c.created-known.ensures.before c.created-known.ensures.after c.requires.effects c.requires.ends in
    draft_most (length c.args.family.now) k (sum_by (move_cost a) f.relabelled) (affected_cost c.args.sides a (has c.args.ends.now) k) c.args.steps.now c.draft_levels.new.steps
    c.draft_levels.new.steps e each c.draft_levels.ensures.cost (omega arith)

pub returns-then-keeps_keys-clause-moved : goal.returns-then-keeps_keys-clause-moved
returns-then-keeps_keys-clause-moved g c =
    still_moved c.args.sides c.args.after.now.before (graph_after c.args.after.now) c.args.effects.now c.args.ends.now c.args.family.now c.draft_levels.new.draft c.requires.effects c.requires.ends
    (sym c.keeps_keys.ensures ∙ c.if-keeps_keys.true) c.requires.before c.requires.keyed c.in_ok-draft_levels.ensures.drafted

pub returns-then-keeps_keys-clause-cost : goal.returns-then-keeps_keys-clause-cost
returns-then-keeps_keys-clause-cost g c = λ k e.
    let a = c.args.after.now in
    let f = c.args.effects.now in
    let each = relabels_most c.args.sides a f c.args.ends.now k c.created-known.ensures.new c.created-known.ensures.before c.created-known.ensures.after c.requires.effects c.requires.ends in
    draft_most (length c.args.family.now) k (sum_by (move_cost a) f.relabelled) (affected_cost c.args.sides a (has c.args.ends.now) k) c.args.steps.now c.draft_levels.new.steps
    c.draft_levels.new.steps e each c.draft_levels.ensures.cost (omega arith)

pub move_nodes-requires-clause-live : goal.move_nodes-requires-clause-live
move_nodes-requires-clause-live g c = λ n h.
    ends_live c.args.sides c.args.after.now.before (graph_after c.args.after.now) c.args.effects.now n c.requires.effects (ap (λ (xs : List ℕ). has xs n) (sym c.requires.ends) ∙ h)

pub move_nodes-requires-clause-moving : goal.move_nodes-requires-clause-moving
move_nodes-requires-clause-moving g c =
    levels_moving c.args.sides (lone_nodes c.args.effects.now) (has c.args.ends.now) (graph_after c.args.after.now) c.args.family.now c.draft_levels.new.draft
    (λ n h. lone_ends c.args.sides c.args.after.now.before (graph_after c.args.after.now) c.args.effects.now c.args.ends.now n c.requires.effects c.requires.ends h) c.requires.before.some
    c.in_ok-draft_levels.ensures.drafted

pub move_nodes-requires-clause-differs : goal.move_nodes-requires-clause-differs
move_nodes-requires-clause-differs g c =
    ends_apart c.args.sides c.args.after.now.before (graph_after c.args.after.now) c.args.effects.now c.args.ends.now c.requires.effects c.requires.ends

pub move_nodes-requires-clause-near : goal.move_nodes-requires-clause-near
move_nodes-requires-clause-near g c = λ still.
    levels_near c.args.sides c.args.after.now.before (graph_after c.args.after.now) c.args.effects.now c.args.ends.now c.args.family.now c.draft_levels.new.draft c.requires.effects c.requires.ends
    c.requires.before still c.in_ok-draft_levels.ensures.drafted

pub returns-in_err-move_nodes-clause-cost : goal.returns-in_err-move_nodes-clause-cost
returns-in_err-move_nodes-clause-cost g c = λ k e.
    let a = c.args.after.now in
    let f = c.args.effects.now in
    let each = relabels_most c.args.sides a f c.args.ends.now k c.created-known.ensures.new c.created-known.ensures.before c.created-known.ensures.after c.requires.effects c.requires.ends in
    draft_most (length c.args.family.now) k (sum_by (move_cost a) f.relabelled) (affected_cost c.args.sides a (has c.args.ends.now) k) c.args.steps.now c.draft_levels.new.steps
    c.move_nodes.new.steps e each c.draft_levels.ensures.cost (c.move_nodes.ensures.cost k e)

pub returns-clause-cost : goal.returns-clause-cost
returns-clause-cost g c = λ k e.
    let a = c.args.after.now in
    let f = c.args.effects.now in
    let each = relabels_most c.args.sides a f c.args.ends.now k c.created-known.ensures.new c.created-known.ensures.before c.created-known.ensures.after c.requires.effects c.requires.ends in
    draft_most (length c.args.family.now) k (sum_by (move_cost a) f.relabelled) (affected_cost c.args.sides a (has c.args.ends.now) k) c.args.steps.now c.draft_levels.new.steps
    c.move_nodes.new.steps e each c.draft_levels.ensures.cost (c.move_nodes.ensures.cost k e)
