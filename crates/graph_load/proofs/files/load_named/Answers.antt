use Rattle.std.proofs.Common.{ap}
use Rattle.triple_names.specs.Names.{ReservedNames}
use Rattle.graph_load.proofs.LoadedTexts.{file_graph, file_named, file_represented}
use Rattle.graph_load.proofs.EditedLoads.{file_stays}
use Rattle.graph_load.proofs.OneOutcome.{one_outcome}
use Rattle.graph_load.proofs.files.load_named.Goals as goal

pub returns-in-Ok-clause-loaded : goal.returns-in-Ok-clause-loaded
returns-in-Ok-clause-loaded g c =
    rw c.into_parts.ensures.graph (file_graph c.args.limits.now (g.H.Shelf.files c.args.shelf.now) c.args.name.now c.in-Ok.loader (rw c.in-Ok.is at c.load_file.ensures.loaded))

pub returns-in-Ok-clause-named : goal.returns-in-Ok-clause-named
returns-in-Ok-clause-named g c =
    rw c.into_parts.ensures.graph (file_named c.args.limits.now (g.H.Shelf.files c.args.shelf.now) c.args.name.now c.in-Ok.loader c.into_parts.result.1.names
    (rw c.in-Ok.is at c.load_file.ensures.sound) (ap (λ (n : ReservedNames). n.names) c.into_parts.ensures.names) (rw c.in-Ok.is at c.load_file.ensures.loaded))

pub returns-in-Ok-clause-represented : goal.returns-in-Ok-clause-represented
returns-in-Ok-clause-represented g c =
    rw c.into_parts.ensures.graph (file_represented c.args.limits.now (g.H.Shelf.files c.args.shelf.now) c.args.name.now c.in-Ok.loader c.into_parts.result.1.names
    (rw c.in-Ok.is at c.load_file.ensures.sound) (ap (λ (n : ReservedNames). n.names) c.into_parts.ensures.names) (rw c.in-Ok.is at c.load_file.ensures.loaded))

pub returns-in-Ok-clause-edits : goal.returns-in-Ok-clause-edits
returns-in-Ok-clause-edits g c =
    rw c.into_parts.ensures.graph (file_stays (g.H.Shelf.files c.args.shelf.now) c.args.name.now c.in-Ok.loader.graph.graph c.into_parts.result.1.names
    (file_represented c.args.limits.now (g.H.Shelf.files c.args.shelf.now) c.args.name.now c.in-Ok.loader c.into_parts.result.1.names
    (rw c.in-Ok.is at c.load_file.ensures.sound) (ap (λ (n : ReservedNames). n.names) c.into_parts.ensures.names) (rw c.in-Ok.is at c.load_file.ensures.loaded)))

pub returns-in-Ok-clause-once : goal.returns-in-Ok-clause-once
returns-in-Ok-clause-once g c = one_outcome c.args.limits.now

pub returns-in-Err-clause-once : goal.returns-in-Err-clause-once
returns-in-Err-clause-once g c = one_outcome c.args.limits.now
