use Rattle.bisim_spec.specs.declared.sides.Sides.TheVariants as sides
use Rattle.graph_update.specs.PendingChanges.{graph_after}
use Rattle.graph_effects.proofs.StepEffects.{effects_are, targets_of, targets_are}
use Rattle.graph_effects.proofs.effects.Effects.of.Goals as goal

pub returns-clause-effects : goal.returns-clause-effects
returns-clause-effects g c =
    let a = c.args.after.now in
    effects_are a.change a.before _ c.created-known.ensures.after
    (record {
      came = c.in_ok-came.ensures;
      gone = c.in_ok-gone.ensures;
      relabelled = c.in_ok-relabelled.ensures;
      lost = c.in_ok-find_edges.ensures.lost;
      added = c.in_ok-find_edges.ensures.added;
      targets = targets_of (graph_after a) c.in_ok-targets.targets.items c.in_ok-came.came.items c.deref-2.result.now c.in_ok-relabelled.relabelled.items c.deref-3.result.now c.find_edges.new.lost.items
          c.deref-4.result.now c.find_edges.new.added.items c.deref-5.result.now c.deref-2.ensures c.deref-3.ensures c.deref-4.ensures c.deref-5.ensures c.in_ok-targets.ensures;
    })

pub returns-clause-targets : goal.returns-clause-targets
returns-clause-targets g c = λ n h.
    let a = c.args.after.now in
    targets_are sides.Parents a.change a.before _ n (record {
      came = c.in_ok-came.ensures;
      gone = c.in_ok-gone.ensures;
      relabelled = c.in_ok-relabelled.ensures;
      lost = c.in_ok-find_edges.ensures.lost;
      added = c.in_ok-find_edges.ensures.added;
      targets = targets_of (graph_after a) c.in_ok-targets.targets.items c.in_ok-came.came.items c.deref-2.result.now c.in_ok-relabelled.relabelled.items c.deref-3.result.now c.find_edges.new.lost.items
          c.deref-4.result.now c.find_edges.new.added.items c.deref-5.result.now c.deref-2.ensures c.deref-3.ensures c.deref-4.ensures c.deref-5.ensures c.in_ok-targets.ensures;
    }) h

pub returns-clause-ends : goal.returns-clause-ends
returns-clause-ends g c = λ n h.
    let a = c.args.after.now in
    targets_are sides.Both a.change a.before _ n (record {
      came = c.in_ok-came.ensures;
      gone = c.in_ok-gone.ensures;
      relabelled = c.in_ok-relabelled.ensures;
      lost = c.in_ok-find_edges.ensures.lost;
      added = c.in_ok-find_edges.ensures.added;
      targets = targets_of (graph_after a) c.in_ok-targets.targets.items c.in_ok-came.came.items c.deref-2.result.now c.in_ok-relabelled.relabelled.items c.deref-3.result.now c.find_edges.new.lost.items
          c.deref-4.result.now c.find_edges.new.added.items c.deref-5.result.now c.deref-2.ensures c.deref-3.ensures c.deref-4.ensures c.deref-5.ensures c.in_ok-targets.ensures;
    }) h
