use Rattle.graph_update.proofs.StagedSteps.{staged_drop}
use Rattle.graph_update.proofs.staging.stage_drop.Goals as goal

pub returns : goal.returns
returns c = record { staged = λ k. staged_drop k c.args.node c.args.graph.now c.args.plans.now.items c.push.new.self.items c.in_ok-push.ensures.ok }
