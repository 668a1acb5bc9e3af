use Rattle.std.proofs.Common.{arith, sym, ◌∙◌}
use Rattle.cell_lists.proofs.SearchedPieces.{has-further}
use Rattle.cell_lists.proofs.segment.prefix_without.Goals as goal

pub loop-front-preserved : goal.loop-front-preserved
loop-front-preserved c = record {
  within = omega arith;
  without = has-further c.args.n c.loop-front.front _ _ c.args.list.now (omega arith) c.loop-front.invariant.without (sym c.is_among.ensures ∙ c.if-not-is_among.true);
}
