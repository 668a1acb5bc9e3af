use Rattle.std.proofs.Common.{ℕ, ◌<◌, List, IsSome, length, sym, subst}
use Rattle.graph_spec.specs.Members.{at}
use Rattle.graph_update.specs.PendingChanges.{graph_after}
use Rattle.graph_effects.proofs.ListedEffects.{pair_is, added_begins, added_ends}
use Rattle.ak_family.specs.LevelDrafts.{blocks_shown}
use Rattle.level_update.specs.LevelEffects.{IsEdgeRaised}
use Rattle.level_update.proofs.EffectLevels.{new_some, added_few, way_raised, same_next}
use Rattle.level_update.proofs.counting.raise_edges.Goals as goal

pub raise_edge-requires-clause-from : goal.raise_edge-requires-clause-from
raise_edge-requires-clause-from c =
    let pair = pair_is c.added-added.result.now c.args.effects.now.added c.raises.edge-index (0, 0) c.added-added.ensures c.raises-test.true in
    let below = subst (λ (xs : List (ℕ × ℕ)). c.raises.edge-index < length xs) c.added-added.ensures c.raises-test.true in
    let base = c.requires.before.bases in
    subst (λ (p : ℕ × ℕ). IsSome (at (blocks_shown c.args.family.now c.raises.draft c.args.i) p.0)) (sym pair)
    (new_some c.args.after.now.before (graph_after c.args.after.now) _ c.args.effects.now c.args.family.now c.raises.draft c.args.i _ c.requires.effects base c.requires.level
    (added_begins c.args.after.now.before (graph_after c.args.after.now) c.args.effects.now c.raises.edge-index c.requires.effects c.requires.before.graph_after below) c.raises.invariant.way)

pub raise_edge-requires-clause-onto : goal.raise_edge-requires-clause-onto
raise_edge-requires-clause-onto c =
    let pair = pair_is c.added-added.result.now c.args.effects.now.added c.raises.edge-index (0, 0) c.added-added.ensures c.raises-test.true in
    let below = subst (λ (xs : List (ℕ × ℕ)). c.raises.edge-index < length xs) c.added-added.ensures c.raises-test.true in
    let base = c.requires.before.bases in
    subst (λ (p : ℕ × ℕ). IsSome (at (blocks_shown c.args.family.now c.raises.draft c.args.i) p.1)) (sym pair)
    (new_some c.args.after.now.before (graph_after c.args.after.now) _ c.args.effects.now c.args.family.now c.raises.draft c.args.i _ c.requires.effects base c.requires.level
    (added_ends c.args.after.now.before (graph_after c.args.after.now) c.args.effects.now c.raises.edge-index c.requires.effects c.requires.before.graph_after below) c.raises.invariant.way)

pub raise_edge-requires-clause-few : goal.raise_edge-requires-clause-few
raise_edge-requires-clause-few c =
    added_few c.args.after.now.before (graph_after c.args.after.now) c.args.effects.now c.args.family.now c.raises.draft c.args.i c.raises.edge-index c.requires.effects c.requires.before.few
    c.raises.invariant.way

pub raises-preserved : goal.raises-preserved
raises-preserved c =
    let pair = pair_is c.added-added.result.now c.args.effects.now.added c.raises.edge-index (0, 0) c.added-added.ensures c.raises-test.true in
    let below = subst (λ (xs : List (ℕ × ℕ)). c.raises.edge-index < length xs) c.added-added.ensures c.raises-test.true in
    record {
      way = way_raised c.args.after.now.before (graph_after c.args.after.now) c.args.effects.now c.args.family.now c.raises.draft c.raise_edge.new.draft c.args.i c.raises.edge-index c.requires.effects
          below c.raises.invariant.way (subst (λ (p : ℕ × ℕ). IsEdgeRaised c.args.family.now c.args.i p.0 p.1 c.raises.draft c.raise_edge.new.draft) pair c.in_ok-raise_edge.ensures.raised);
      others = same_next c.args.i c.args.draft.now c.raises.draft c.raise_edge.new.draft c.raises.invariant.others c.raise_edge.ensures.others;
    }
