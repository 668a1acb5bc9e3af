use Rattle.std.proofs.Common.{◌∙◌, ◌≤◌, ◌^◌, ap, sym, subst}
use Rattle.change_spec.specs.Named.{is_dropped}
use Rattle.graph_update.proofs.PendingLaws.{new_nodes, new_graph, new_last}
use Rattle.graph_update.proofs.pending.After.new.Goals as goal

pub invariant_of-result : goal.invariant_of-result
invariant_of-result c =
    let g = c.args.graph.now.graph in
    record {
      new = c.requires.new;
      last = new_last c.args.change.now g c.requires.new;
      seen = c.labels-labels.ensures.seen;
      sound = c.labels-labels.ensures.graph;
      created_is = c.created_after.ensures.created;
      few = subst (λ k. k ≤ 2 ^ 30) (sym c.created_after.ensures.created) (new_nodes c.args.change.now g c.requires.new c.created_after.ensures.before);
      stays = λ off n. ap (λ k. is_dropped k n) (sym c.steps.ensures) ∙ c.any_drops.ensures off n;
      ahead_are = λ on. c.are_ahead.ensures on g c.labels-labels.ensures.seen;
    }

pub returns-clause-after : goal.returns-clause-after
returns-clause-after c = new_graph c.args.change.now c.args.graph.now.graph c.requires.new c.labels-labels.ensures.graph
