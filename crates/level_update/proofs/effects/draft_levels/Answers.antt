use Rattle.std.proofs.Common.{◌+◌, ◌*◌, ◌≤◌, arith, length}
use Rattle.std.specs.List.{sum_by}
use Rattle.graph_update.specs.PendingChanges.{graph_after}
use Rattle.level_update.specs.LevelCosts.{move_cost}
use Rattle.level_update.specs.LevelEffects.{lone_nodes}
use Rattle.level_update.proofs.EffectLevels.{below_drafted, drafted_next, drafted_all}
use Rattle.level_update.proofs.RelabelledLevels.{so_many}
use Rattle.level_update.proofs.effects.draft_levels.Goals as goal

pub draft_whole-requires-clause-below : goal.draft_whole-requires-clause-below
draft_whole-requires-clause-below g c =
    below_drafted (lone_nodes c.args.effects.now) (graph_after c.args.after.now) c.args.family.now c.levels.draft c.levels.i c.levels.invariant.drafted

pub levels-preserved : goal.levels-preserved
levels-preserved g c =
    let so_far = c.levels.invariant.cost in
    let here = c.draft_whole.ensures.cost in
    record {
      drafted = drafted_next (lone_nodes c.args.effects.now) (graph_after c.args.after.now) c.args.family.now c.levels.draft c.draft_whole.new.draft c.levels.i c.levels.invariant.drafted
          c.draft_whole.ensures.others c.in_ok-draft_whole.ensures.over c.in_ok-draft_whole.ensures.drafted;
      cost = omega (arith, so_far, here);
    }

pub returns-in_err-draft_whole-clause-cost : goal.returns-in_err-draft_whole-clause-cost
returns-in_err-draft_whole-clause-cost g c =
    let test = c.levels-test.true in
    let count = c.k-i-end.ensures.count in
    let so_far = c.levels.invariant.cost in
    let here = c.draft_whole.ensures.cost in
    so_many (c.levels.i + 1) (length c.args.family.now) (sum_by (move_cost c.args.after.now) c.args.effects.now.relabelled) c.args.steps.now c.draft_whole.new.steps (omega (arith, test, count))
    (omega (arith, so_far, here))

pub returns-clause-drafted : goal.returns-clause-drafted
returns-clause-drafted g c =
    let test = c.levels-test.false in
    let count = c.k-i-end.ensures.count in
    drafted_all (lone_nodes c.args.effects.now) (graph_after c.args.after.now) c.args.family.now c.levels.draft c.levels.i c.levels.invariant.drafted (omega (arith, test, count))

pub returns-clause-cost : goal.returns-clause-cost
returns-clause-cost g c =
    let count = c.k-i-end.ensures.count in
    let past = c.levels.auto.i-end in
    so_many c.levels.i (length c.args.family.now) (sum_by (move_cost c.args.after.now) c.args.effects.now.relabelled) c.args.steps.now c.levels.steps (omega (arith, past, count)) c.levels.invariant.cost
