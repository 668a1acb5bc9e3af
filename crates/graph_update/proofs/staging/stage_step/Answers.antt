use Rattle.std.proofs.Common.{subst}
use Rattle.std.proofs.lemmas.Result.{on_ok_weaker}
use Rattle.change_spec.specs.Steps.{after}
use Rattle.change_spec.specs.Places.{CanMake}
use Rattle.graph_steps.specs.StepLists.{step_of}
use Rattle.graph_update.proofs.staging.stage_step.Goals as goal

pub stage_link-requires-clause-can : goal.stage_link-requires-clause-can
stage_link-requires-clause-can c = subst (λ s. CanMake (step_of s) (after c.args.prefix.now c.args.graph.now.graph)) c.in-Link.is c.requires.can

pub stage_relabel-requires-clause-can : goal.stage_relabel-requires-clause-can
stage_relabel-requires-clause-can c = subst (λ s. CanMake (step_of s) (after c.args.prefix.now c.args.graph.now.graph)) c.in-Relabel.is c.requires.can

pub returns-in-Node-clause-staged : goal.returns-in-Node-clause-staged
returns-in-Node-clause-staged c = rw c.in-Node.is (on_ok_weaker c.stage_node.result (λ f. f c.args.prefix.now c.requires.staged) c.stage_node.ensures.staged)

pub returns-in-Link-clause-staged : goal.returns-in-Link-clause-staged
returns-in-Link-clause-staged c = rw c.in-Link.is c.stage_link.ensures.staged

pub returns-in-Unlink-clause-staged : goal.returns-in-Unlink-clause-staged
returns-in-Unlink-clause-staged c = rw c.in-Unlink.is (on_ok_weaker c.stage_unlink.result (λ f. f c.args.prefix.now c.requires.staged) c.stage_unlink.ensures.staged)

pub returns-in-Drop-clause-staged : goal.returns-in-Drop-clause-staged
returns-in-Drop-clause-staged c = rw c.in-Drop.is (on_ok_weaker c.stage_drop.result (λ f. f c.args.prefix.now c.requires.staged) c.stage_drop.ensures.staged)

pub returns-in-Relabel-clause-staged : goal.returns-in-Relabel-clause-staged
returns-in-Relabel-clause-staged c = rw c.in-Relabel.is c.stage_relabel.ensures.staged
