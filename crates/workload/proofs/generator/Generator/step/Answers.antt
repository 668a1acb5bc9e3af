use Rattle.std.proofs.Common.{◌*◌, ◌^◌}
use Rattle.std.proofs.Math.Nat.{mod-add-mod}
use Rattle.workload.specs.Generator.{next_state}
use Rattle.workload.proofs.generator.Generator.step.Goals as goal

pub returns : goal.returns
unfolding next_state
returns c = mod-add-mod (c.args.self.now.state * 6364136223846793005) (2 ^ 64) 1442695040888963407
