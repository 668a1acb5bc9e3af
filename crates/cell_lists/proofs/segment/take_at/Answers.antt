use Rattle.std.proofs.Common.{◌-◌, sym, ◌∙◌, refl}
use Rattle.cell_lists.proofs.SegmentLemmas.{long-taken, long-is}
use Rattle.cell_lists.proofs.segment.take_at.Goals as goal

pub returns-clause-items : goal.returns-clause-items
returns-clause-items c =
    let s = c.args.segment.now in
    long-taken c.args.cells.now.items s (record s { len = s.len - 1 }) c.args.place c.index.result.now c.requires.within (long-is s.reserved (sym c.is_short.ensures ∙ c.if-is_short.false)) c.requires.place refl refl refl c.index.ensures
