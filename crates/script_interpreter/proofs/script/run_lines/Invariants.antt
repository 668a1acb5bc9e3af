use Rattle.std.proofs.Common.{◌≡◌, ◌-◌, ◌≤◌}
use Rattle.px_base.specs.declared.lines.TheConstants.{SCRIPT_BYTES}
use Rattle.px_base.specs.ReaderStates.{stream}
use Rattle.pathindex_core.specs.Engines.{by_meaning}
use Rattle.script_interpreter.specs.EngineStates.{IsOpenForProgram, state_in}
use Rattle.script_interpreter.specs.Rules.{rules_for}
use Rattle.script_interpreter.specs.RunSteps.{CanRead}
use Rattle.script_interpreter.proofs.ReachedLemmas.{Stands}
use Rattle.script_interpreter.proofs.script.run_lines.Given as goal

abbrev pub invariant-lines : goal.invariant-lines
invariant-lines g l = record {
  stands : Stands (rules_for l.fn.printing) (state_in (by_meaning g.B.PathIndex.meaning l.fn.engine) l.fn.names.names) (g.H.Shelf.left l.fn.shelf) (stream l.reader (g.H.Shelf.left l.shelf)) (g.K.Sink.written l.fn.sink) (g.K.Sink.written l.sink) l.output.text
      (state_in (by_meaning g.B.PathIndex.meaning l.engine) l.names.names) l.group l.output.refused l.reader;
  printing : l.output.printing ≡ l.fn.printing;
  ready : IsOpenForProgram (by_meaning g.B.PathIndex.meaning l.engine);
  can : CanRead l.reader (g.H.Shelf.is_open l.shelf);
  taken : l.reader.taken ≤ SCRIPT_BYTES;
  files : g.H.Shelf.files l.shelf ≡ g.H.Shelf.files l.fn.shelf;
  shelf_faults : g.H.Shelf.faults l.shelf ≡ g.H.Shelf.faults l.fn.shelf;
  sink_faults : g.K.Sink.faults l.sink ≡ g.K.Sink.faults l.fn.sink;
}

-- the count of steps that is opened for a file
abbrev pub ghosts-save : goal.ghosts-save
ghosts-save g a = record { name = a.blank.name; parts = a.blank.parts }

abbrev pub decreases-lines : goal.decreases-lines
decreases-lines g l = SCRIPT_BYTES - l.reader.taken
