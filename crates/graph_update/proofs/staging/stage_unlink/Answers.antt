use Rattle.graph_update.proofs.StagedSteps.{staged_unlink}
use Rattle.graph_update.proofs.staging.stage_unlink.Goals as goal

pub returns : goal.returns
returns c = record { staged = λ k. staged_unlink k c.args.from c.args.to c.args.graph.now c.args.plans.now.items c.push.new.self.items c.in_ok-push.ensures.ok }
