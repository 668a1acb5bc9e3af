use Rattle.std.proofs.Common.{ℕ, ◌<◌, ◌≤◌, ◌^◌, List, IsSome, length, subst, sym}
use Rattle.std.specs.FinSet as set
use Rattle.graph_spec.specs.Members.{at}
use Rattle.graph_update.specs.PendingChanges.{graph_after}
use Rattle.graph_effects.proofs.ListedEffects.{pair_is, added_begins, added_ends}
use Rattle.quotient_draft.specs.Drafts.{shown_blocks}
use Rattle.one_update.specs.EffectDrafts.{IsPairRaised}
use Rattle.one_update.proofs.IndexEffects.{index_base, index_new, index_few, index_raised}
use Rattle.one_update.proofs.counting.raise_edges.Goals as goal

pub raise_edge-requires-clause-from : goal.raise_edge-requires-clause-from
raise_edge-requires-clause-from c =
    let pair = pair_is c.added-added.result.now c.args.effects.now.added c.raises.edge-index (0, 0) c.added-added.ensures c.raises-test.true in
    let below = subst (λ (xs : List (ℕ × ℕ)). c.raises.edge-index < length xs) c.added-added.ensures c.raises-test.true in
    let b = c.requires.before in
    subst (λ (p : ℕ × ℕ). IsSome (at (shown_blocks c.args.base.now c.raises.draft) p.0)) (sym pair)
    (index_new c.args.after.now.before (graph_after c.args.after.now) _ c.args.effects.now c.args.base.now c.raises.draft _ c.requires.effects
    (index_base c.args.after.now.before c.args.base.now b.graph b.fits)
    (added_begins c.args.after.now.before (graph_after c.args.after.now) c.args.effects.now c.raises.edge-index c.requires.effects b.graph_after below) c.raises.invariant.way)

pub raise_edge-requires-clause-onto : goal.raise_edge-requires-clause-onto
raise_edge-requires-clause-onto c =
    let pair = pair_is c.added-added.result.now c.args.effects.now.added c.raises.edge-index (0, 0) c.added-added.ensures c.raises-test.true in
    let below = subst (λ (xs : List (ℕ × ℕ)). c.raises.edge-index < length xs) c.added-added.ensures c.raises-test.true in
    let b = c.requires.before in
    subst (λ (p : ℕ × ℕ). IsSome (at (shown_blocks c.args.base.now c.raises.draft) p.1)) (sym pair)
    (index_new c.args.after.now.before (graph_after c.args.after.now) _ c.args.effects.now c.args.base.now c.raises.draft _ c.requires.effects
    (index_base c.args.after.now.before c.args.base.now b.graph b.fits)
    (added_ends c.args.after.now.before (graph_after c.args.after.now) c.args.effects.now c.raises.edge-index c.requires.effects b.graph_after below) c.raises.invariant.way)

pub raise_edge-requires-clause-few : goal.raise_edge-requires-clause-few
raise_edge-requires-clause-few c =
    let most : set.len (graph_after c.args.after.now).edges ≤ 2 ^ 30 = c.created-known.ensures.few_edges in
    index_few c.args.after.now.before (graph_after c.args.after.now) c.args.effects.now c.args.base.now c.raises.draft c.raises.edge-index c.requires.effects most c.raises.invariant.way

pub raises-preserved : goal.raises-preserved
raises-preserved c =
    let pair = pair_is c.added-added.result.now c.args.effects.now.added c.raises.edge-index (0, 0) c.added-added.ensures c.raises-test.true in
    let below = subst (λ (xs : List (ℕ × ℕ)). c.raises.edge-index < length xs) c.added-added.ensures c.raises-test.true in
    record {
      way = index_raised c.args.after.now.before (graph_after c.args.after.now) c.args.effects.now c.args.base.now c.raises.draft c.raise_edge.new.draft c.raises.edge-index c.requires.effects below
          c.raises.invariant.way (subst (λ (p : ℕ × ℕ). IsPairRaised c.args.base.now p.0 p.1 c.raises.draft c.raise_edge.new.draft) pair c.in_ok-raise_edge.ensures.raised);
    }
