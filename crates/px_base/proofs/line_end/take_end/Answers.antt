use Rattle.std.proofs.Common.{◌∙◌, sym}
use Rattle.px_base.proofs.LineEndLaws.{first-passes}
use Rattle.px_base.proofs.line_end.take_end.Goals as goal

pub returns-then-most-eq0-clause-limit : goal.returns-then-most-eq0-clause-limit
returns-then-most-eq0-clause-limit g c p =
    first-passes c.args.most c.in-Some.byte c.args.window.now (g.H.Shelf.left c.args.shelf.now) c.if-most-eq0.true c.requires.stop.stopped
    (sym c.first.ensures ∙ c.in-Some.is)
