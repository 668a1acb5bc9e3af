use Rattle.std.proofs.Common.{ap}
use Rattle.graph_load.specs.TripleGraphs.{with_graph}
use Rattle.graph_load.specs.Loaders.{load_state}
use Rattle.graph_load.proofs.SoundSteps.{link_steps, on_ok_both}
use Rattle.graph_load.proofs.loader.Loader.link.Goals as goal

pub returns-clause-steps : goal.returns-clause-steps
returns-clause-steps c =
    on_ok_both c.link.result (link_steps c.args.limits.now c.args.from c.args.to c.args.self.now c.link.new.graph c.requires.sound) c.link.ensures.made c.link.ensures.reserved

pub returns-clause-limit : goal.returns-clause-limit
returns-clause-limit c = λ e triples. let r = c.link.ensures.limit e in (r.0, ap (with_graph (load_state c.args.self.now triples)) r.1)
