use Rattle.std.proofs.Common.{ℕ, ◌<◌, List, IsSome, length, sym, subst}
use Rattle.graph_spec.specs.Members.{at}
use Rattle.graph_update.specs.PendingChanges.{graph_after}
use Rattle.graph_effects.proofs.ListedEffects.{pair_is, lost_begins, lost_ends}
use Rattle.ak_family.specs.LevelDrafts.{blocks_shown}
use Rattle.level_update.specs.LevelEffects.{HaveSupport, IsEdgeLowered}
use Rattle.level_update.proofs.EffectLevels.{old_some, lost_some, way_lowered, same_next}
use Rattle.level_update.proofs.counting.lower_edges.Goals as goal

pub lower_edge-requires-clause-from : goal.lower_edge-requires-clause-from
lower_edge-requires-clause-from c =
    let pair = pair_is c.lost-lost.result.now c.args.effects.now.lost c.lowers.edge-index (0, 0) c.lost-lost.ensures c.lowers-test.true in
    let below = subst (λ (xs : List (ℕ × ℕ)). c.lowers.edge-index < length xs) c.lost-lost.ensures c.lowers-test.true in
    let base = c.requires.before.bases in
    subst (λ (p : ℕ × ℕ). IsSome (at (blocks_shown c.args.family.now c.lowers.draft c.args.i) p.0)) (sym pair)
    (old_some c.args.after.now.before (graph_after c.args.after.now) _ c.args.effects.now c.args.family.now c.lowers.draft c.args.i _ c.requires.effects base c.requires.level
    (lost_begins c.args.after.now.before (graph_after c.args.after.now) c.args.effects.now c.lowers.edge-index c.requires.effects c.requires.before.graph below) c.lowers.invariant.way)

pub lower_edge-requires-clause-onto : goal.lower_edge-requires-clause-onto
lower_edge-requires-clause-onto c =
    let pair = pair_is c.lost-lost.result.now c.args.effects.now.lost c.lowers.edge-index (0, 0) c.lost-lost.ensures c.lowers-test.true in
    let below = subst (λ (xs : List (ℕ × ℕ)). c.lowers.edge-index < length xs) c.lost-lost.ensures c.lowers-test.true in
    let base = c.requires.before.bases in
    subst (λ (p : ℕ × ℕ). IsSome (at (blocks_shown c.args.family.now c.lowers.draft c.args.i) p.1)) (sym pair)
    (old_some c.args.after.now.before (graph_after c.args.after.now) _ c.args.effects.now c.args.family.now c.lowers.draft c.args.i _ c.requires.effects base c.requires.level
    (lost_ends c.args.after.now.before (graph_after c.args.after.now) c.args.effects.now c.lowers.edge-index c.requires.effects c.requires.before.graph below) c.lowers.invariant.way)

pub lower_edge-requires-clause-some : goal.lower_edge-requires-clause-some
lower_edge-requires-clause-some c =
    let pair = pair_is c.lost-lost.result.now c.args.effects.now.lost c.lowers.edge-index (0, 0) c.lost-lost.ensures c.lowers-test.true in
    let below = subst (λ (xs : List (ℕ × ℕ)). c.lowers.edge-index < length xs) c.lost-lost.ensures c.lowers-test.true in
    subst (λ (p : ℕ × ℕ). HaveSupport c.args.family.now c.lowers.draft c.args.i p.0 p.1) (sym pair)
    (lost_some c.args.after.now.before (graph_after c.args.after.now) c.args.effects.now c.args.family.now c.lowers.draft c.args.i c.lowers.edge-index c.requires.effects below c.lowers.invariant.way)

pub lowers-preserved : goal.lowers-preserved
lowers-preserved c =
    let pair = pair_is c.lost-lost.result.now c.args.effects.now.lost c.lowers.edge-index (0, 0) c.lost-lost.ensures c.lowers-test.true in
    let below = subst (λ (xs : List (ℕ × ℕ)). c.lowers.edge-index < length xs) c.lost-lost.ensures c.lowers-test.true in
    record {
      way = way_lowered c.args.after.now.before (graph_after c.args.after.now) c.args.effects.now c.args.family.now c.lowers.draft c.lower_edge.new.draft c.args.i c.lowers.edge-index c.requires.effects
          below c.lowers.invariant.way (subst (λ (p : ℕ × ℕ). IsEdgeLowered c.args.family.now c.args.i p.0 p.1 c.lowers.draft c.lower_edge.new.draft) pair c.in_ok-lower_edge.ensures.lowered);
      others = same_next c.args.i c.args.draft.now c.lowers.draft c.lower_edge.new.draft c.lowers.invariant.others c.lower_edge.ensures.others;
    }
