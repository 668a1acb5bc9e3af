use Rattle.std.proofs.Common.{◌≡◌, ◌-◌}
use Rattle.px_base.specs.declared.lines.TheConstants.{GRAPH_BYTES}
use Rattle.px_base.specs.ReaderStates.{stream}
use Rattle.index_file.specs.Reads.{ReadOutcome}
use Rattle.index_file.specs.ReadSteps.{ReadsAhead, place, CanRead}
use Rattle.index_file.proofs.reading.read_lines.Given as goal

abbrev pub invariant-lines : goal.invariant-lines
invariant-lines g l = record {
  leads : (o : ReadOutcome) → ReadsAhead l.limits (stream l.reader (g.H.Shelf.left l.shelf)) (place l.reader l.draft) o
      → ReadsAhead l.limits (stream l.fn.reader (g.H.Shelf.left l.fn.shelf)) (place l.fn.reader l.fn.draft) o;
  can : CanRead l.reader (g.H.Shelf.is_open l.shelf);
  files : g.H.Shelf.files l.shelf ≡ g.H.Shelf.files l.fn.shelf;
  faults : g.H.Shelf.faults l.shelf ≡ g.H.Shelf.faults l.fn.shelf;
}

abbrev pub decreases-lines : goal.decreases-lines
decreases-lines g l = GRAPH_BYTES - l.reader.taken
