use Rattle.std.proofs.Common.{arith, ◌∙◌, ap, set}
use Rattle.round_refinement.specs.Active.{number_in}
use Rattle.round_refinement.proofs.MoveLaws.{renamed_more}
use Rattle.round_refinement.proofs.moves.rename.Goals as goal

pub loop-i-preserved : goal.loop-i-preserved
loop-i-preserved c = record {
  renamed = renamed_more _ _ _ _ _ _ _ c.requires.rising c.loop-i-test.true c.loop-i.invariant.renamed
      (c.put_block.ensures ∙ ap (set c.loop-i.block (number_in c.args.active.now c.loop-i.i)) c.new_block-b.ensures);
  within = (let t = c.loop-i-test.true in omega (arith, t));
}
