use Rattle.std.proofs.Common.{◌≡◌, ◌-◌}
use Rattle.px_base.specs.declared.lines.TheConstants.{GRAPH_BYTES}
use Rattle.graph_load.specs.LoadSteps.{CanRead}
use Rattle.index_picture.specs.NamedTerms.{AreTermNames}
use Rattle.index_picture.proofs.term_names.name_lines.Given as goal

abbrev pub invariant-lines : goal.invariant-lines
invariant-lines g l = record {
  named : AreTermNames l.names.names.terms l.list;
  can : CanRead l.reader (g.H.Shelf.is_open l.shelf);
  files : g.H.Shelf.files l.shelf ≡ g.H.Shelf.files l.fn.shelf;
  faults : g.H.Shelf.faults l.shelf ≡ g.H.Shelf.faults l.fn.shelf;
}

abbrev pub decreases-lines : goal.decreases-lines
decreases-lines g l = GRAPH_BYTES - l.reader.taken
