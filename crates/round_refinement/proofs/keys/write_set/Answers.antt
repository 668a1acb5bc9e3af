use Rattle.std.proofs.Common.{rules}
use Rattle.graph_spec.specs.Members.{at}
use Rattle.round_refinement.proofs.keys.write_set.Goals as goal

pub returns : goal.returns
returns c = c.in_ok-write_images.ensures (at c.args.base.now) (λ n o within given. search rules)
