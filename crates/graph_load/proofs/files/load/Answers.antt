use Rattle.graph_load.proofs.LoadedTexts.{file_graph}
use Rattle.graph_load.proofs.OneOutcome.{one_outcome}
use Rattle.graph_load.proofs.files.load.Goals as goal

pub returns-in-Ok-clause-loaded : goal.returns-in-Ok-clause-loaded
returns-in-Ok-clause-loaded g c =
    rw c.into_graph.ensures (file_graph c.args.limits.now (g.H.Shelf.files c.args.shelf.now) c.args.name.now c.in-Ok.loader (rw c.in-Ok.is at c.load_file.ensures.loaded))

pub returns-in-Ok-clause-once : goal.returns-in-Ok-clause-once
returns-in-Ok-clause-once g c = one_outcome c.args.limits.now

pub returns-in-Err-clause-once : goal.returns-in-Err-clause-once
returns-in-Err-clause-once g c = one_outcome c.args.limits.now
