use Rattle.graph_load.proofs.SoundSteps.{node_steps}
use Rattle.graph_load.proofs.loader.Loader.add_node.Goals as goal

pub returns-clause-steps : goal.returns-clause-steps
returns-clause-steps c =
    node_steps c.args.limits.now c.args.predicate.now c.args.self.now c.add_node.new.graph c.intern.new.self c.requires.sound
    (rw (c.node.ensures, c.in_ok-place.ensures.at) at c.in_ok-number.ensures.made) c.in_ok-number.ensures.reserved c.in_ok-place.ensures.added
