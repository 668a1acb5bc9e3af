use Rattle.index_file.proofs.read_nodes.ReadNodes.live.Goals as goal

pub returns : goal.returns
returns c = rw (← c.self.view_is) c.self.invariant.live_is
