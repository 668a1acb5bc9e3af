use Rattle.std.proofs.Common.{◌∙◌, sym, arith}
use Rattle.cell_lists.proofs.SegmentLemmas.{short-is, long-is}
use Rattle.cell_lists.proofs.Exchanged.{copied-short, copied-long}
use Rattle.cell_lists.proofs.segment.copy_into.Goals as goal

pub returns-then-is_short : goal.returns-then-is_short
returns-then-is_short c =
    copied-short c.args.cells.now.items c.args.list c.args.target (short-is c.args.list.reserved (sym c.is_short.ensures ∙ c.if-is_short.true)) c.requires.list.fits c.requires.target c.requires.long

pub returns : goal.returns
returns c =
    copied-long c.args.cells.now.items c.copy_within.new.self.items c.args.list c.args.target _ c.copy_within.ensures.items (omega arith)
    (long-is c.args.list.reserved (sym c.is_short.ensures ∙ c.if-is_short.false)) c.requires.list c.requires.target c.requires.long c.requires.larger
