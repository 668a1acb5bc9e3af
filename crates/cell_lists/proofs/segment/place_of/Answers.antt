use Rattle.std.proofs.Common.{sym, refl}
use Rattle.cell_lists.proofs.Positions.{number-position}
use Rattle.cell_lists.proofs.segment.place_of.Goals as goal

pub returns-then-is_last : goal.returns-then-is_last
returns-then-is_last c = sym (number-position c.args.list.now _ c.args.n c.requires (c.if-is_last.ensures.last refl))
