use Rattle.index_file.proofs.ReadNodeLaws.{gone_pushed}
use Rattle.index_file.proofs.read_nodes.ReadNodes.push_gone.Goals as goal

pub invariant_of-self-2 : goal.invariant_of-self-2
invariant_of-self-2 c = gone_pushed c.self.inside.labels c.self.inside.numbers.items c.push.new.self.items c.self.inside.live c.self.invariant c.in_ok-push.ensures.items
