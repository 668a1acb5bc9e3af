use Rattle.std.specs.Io.KnownBytes.{prepend_known}
use Rattle.px_base.proofs.GatheredParts.{SoFar, steps_left}
use Rattle.px_base.proofs.lines.gather.Given as goal

abbrev pub invariant-loop-window : goal.invariant-loop-window
invariant-loop-window g l =
    SoFar l.most l.fn.line.items l.line.items l.fn.window l.window l.fn.shelf l.shelf
    (prepend_known l.fn.window (g.H.Shelf.left l.fn.shelf)) (prepend_known l.window (g.H.Shelf.left l.shelf))
    (g.H.Shelf.files l.fn.shelf) (g.H.Shelf.files l.shelf) (g.H.Shelf.faults l.fn.shelf) (g.H.Shelf.faults l.shelf) (g.H.Shelf.is_open l.shelf)

abbrev pub decreases-loop-window : goal.decreases-loop-window
decreases-loop-window g l = steps_left l.most l.line.items l.window
