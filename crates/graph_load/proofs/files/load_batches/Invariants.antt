use Rattle.std.proofs.Common.{◌≡◌, ℕ, ◌-◌, List, []}
use Rattle.px_base.specs.declared.lines.TheConstants.{GRAPH_BYTES}
use Rattle.px_base.specs.ReaderStates.{stream}
use Rattle.triples_read.specs.declared.term.Triple.{Triple}
use Rattle.graph_load.specs.Loads.{Ending}
use Rattle.graph_load.specs.Loaders.{load_state, Holds, IsSoundLoader}
use Rattle.graph_load.specs.LoadSteps.{LoadsAhead, place, CanRead}
use Rattle.graph_load.proofs.files.load_batches.Given as goal

abbrev pub invariant-batches : goal.invariant-batches
invariant-batches g l = record {
  none : l.waiting.items ≡ [];
  triples : List (Triple × ℕ);
  holds : Holds l.loader triples;
  leads : (o : Ending) → LoadsAhead l.limits (stream l.reader (g.H.Shelf.left l.shelf)) (place l.reader (load_state l.loader triples)) o → LoadsAhead l.limits (stream l.fn.reader (g.H.Shelf.left l.fn.shelf)) (place l.fn.reader (load_state l.fn.loader [])) o;
  sound : IsSoundLoader l.loader;
  can : CanRead l.reader (g.H.Shelf.is_open l.shelf);
  files : g.H.Shelf.files l.shelf ≡ g.H.Shelf.files l.fn.shelf;
  faults : g.H.Shelf.faults l.shelf ≡ g.H.Shelf.faults l.fn.shelf;
}

abbrev pub decreases-batches : goal.decreases-batches
decreases-batches g l = GRAPH_BYTES - l.reader.taken
