use Rattle.std.proofs.Common.{◌≡◌, ◌≤◌, ◌-◌}
use Rattle.px_base.specs.declared.lines.TheConstants.{GRAPH_BYTES}
use Rattle.px_base.specs.ReaderStates.{stream}
use Rattle.graph_load.specs.declared.batch.Next.TheVariants.{Lines}
use Rattle.graph_load.specs.LoadSteps.{CanRead, ReadsLines}
use Rattle.graph_load.proofs.batch.read_batch.Given as goal

abbrev pub invariant-lines : goal.invariant-lines
invariant-lines g l = record {
  reads : ReadsLines l.fn.reader l.fn.waiting.items (stream l.fn.reader (g.H.Shelf.left l.fn.shelf)) Lines l.reader l.waiting.items (stream l.reader (g.H.Shelf.left l.shelf));
  nearer : l.fn.reader.taken ≤ l.reader.taken;
  can : CanRead l.reader (g.H.Shelf.is_open l.shelf);
  files : g.H.Shelf.files l.shelf ≡ g.H.Shelf.files l.fn.shelf;
  faults : g.H.Shelf.faults l.shelf ≡ g.H.Shelf.faults l.fn.shelf;
}

abbrev pub decreases-lines : goal.decreases-lines
decreases-lines g l = GRAPH_BYTES - l.reader.taken
