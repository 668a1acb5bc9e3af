use Rattle.std.proofs.Common.{ℕ, ◌<◌, List, IsSome, length, subst, sym}
use Rattle.graph_spec.specs.Members.{at}
use Rattle.graph_update.specs.PendingChanges.{graph_after}
use Rattle.graph_effects.proofs.ListedEffects.{pair_is, lost_begins, lost_ends}
use Rattle.quotient_draft.specs.Drafts.{shown_blocks}
use Rattle.one_update.specs.EffectDrafts.{HaveSupport, IsPairLowered}
use Rattle.one_update.proofs.IndexEffects.{index_base, index_old, index_some, index_lowered}
use Rattle.one_update.proofs.counting.lower_edges.Goals as goal

pub lower_edge-requires-clause-from : goal.lower_edge-requires-clause-from
lower_edge-requires-clause-from c =
    let pair = pair_is c.lost-lost.result.now c.args.effects.now.lost c.lowers.edge-index (0, 0) c.lost-lost.ensures c.lowers-test.true in
    let below = subst (λ (xs : List (ℕ × ℕ)). c.lowers.edge-index < length xs) c.lost-lost.ensures c.lowers-test.true in
    let b = c.requires.before in
    subst (λ (p : ℕ × ℕ). IsSome (at (shown_blocks c.args.base.now c.lowers.draft) p.0)) (sym pair)
    (index_old c.args.after.now.before (graph_after c.args.after.now) _ c.args.effects.now c.args.base.now c.lowers.draft _ c.requires.effects
    (index_base c.args.after.now.before c.args.base.now b.graph b.fits)
    (lost_begins c.args.after.now.before (graph_after c.args.after.now) c.args.effects.now c.lowers.edge-index c.requires.effects b.graph below) c.lowers.invariant.way)

pub lower_edge-requires-clause-onto : goal.lower_edge-requires-clause-onto
lower_edge-requires-clause-onto c =
    let pair = pair_is c.lost-lost.result.now c.args.effects.now.lost c.lowers.edge-index (0, 0) c.lost-lost.ensures c.lowers-test.true in
    let below = subst (λ (xs : List (ℕ × ℕ)). c.lowers.edge-index < length xs) c.lost-lost.ensures c.lowers-test.true in
    let b = c.requires.before in
    subst (λ (p : ℕ × ℕ). IsSome (at (shown_blocks c.args.base.now c.lowers.draft) p.1)) (sym pair)
    (index_old c.args.after.now.before (graph_after c.args.after.now) _ c.args.effects.now c.args.base.now c.lowers.draft _ c.requires.effects
    (index_base c.args.after.now.before c.args.base.now b.graph b.fits)
    (lost_ends c.args.after.now.before (graph_after c.args.after.now) c.args.effects.now c.lowers.edge-index c.requires.effects b.graph below) c.lowers.invariant.way)

pub lower_edge-requires-clause-some : goal.lower_edge-requires-clause-some
lower_edge-requires-clause-some c =
    let pair = pair_is c.lost-lost.result.now c.args.effects.now.lost c.lowers.edge-index (0, 0) c.lost-lost.ensures c.lowers-test.true in
    let below = subst (λ (xs : List (ℕ × ℕ)). c.lowers.edge-index < length xs) c.lost-lost.ensures c.lowers-test.true in
    subst (λ (p : ℕ × ℕ). HaveSupport c.args.base.now c.lowers.draft p.0 p.1) (sym pair) (λ x y from onto.
    index_some c.args.after.now.before (graph_after c.args.after.now) c.args.effects.now c.args.base.now c.lowers.draft c.lowers.edge-index x y c.requires.effects below c.lowers.invariant.way
    from onto)

pub lowers-preserved : goal.lowers-preserved
lowers-preserved c =
    let pair = pair_is c.lost-lost.result.now c.args.effects.now.lost c.lowers.edge-index (0, 0) c.lost-lost.ensures c.lowers-test.true in
    let below = subst (λ (xs : List (ℕ × ℕ)). c.lowers.edge-index < length xs) c.lost-lost.ensures c.lowers-test.true in
    record {
      way = index_lowered c.args.after.now.before (graph_after c.args.after.now) c.args.effects.now c.args.base.now c.lowers.draft c.lower_edge.new.draft c.lowers.edge-index c.requires.effects below
          c.lowers.invariant.way (subst (λ (p : ℕ × ℕ). IsPairLowered c.args.base.now p.0 p.1 c.lowers.draft c.lower_edge.new.draft) pair c.in_ok-lower_edge.ensures.lowered);
    }
