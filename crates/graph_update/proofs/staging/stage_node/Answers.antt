use Rattle.graph_update.proofs.StagedSteps.{staged_node}
use Rattle.graph_update.proofs.staging.stage_node.Goals as goal

pub returns-clause-staged : goal.returns-clause-staged
returns-clause-staged c = λ k.
    staged_node k c.args.label.now c.args.graph.now c.reserve_node.new.self c.args.plans.now.items c.push.new.self.items
    c.reserve_node.ensures.graph c.in_ok-reserve_node.ensures.ok c.in_ok-push.ensures.ok
