use Rattle.std.proofs.Common.{None, arith}
use Rattle.std.proofs.lemmas.List.{ext_get_or}
use Rattle.index_file.specs.SavedGraphs.{blocks_at}
use Rattle.index_check.proofs.fitting.block_list.Goals as goal

pub returns : goal.returns
returns c =
    let lists = c.size-n-end.ensures.lists c.args.j c.requires in
    let all = c.loop-n.invariant.all in
    let end = c.loop-n-test.false in
    let auto = c.loop-n.auto.n-end in
    ext_get_or None c.loop-n.block.items (blocks_at c.args.saved.now c.args.j) (omega (arith, lists, all, end, auto)) (λ i h. c.loop-n.invariant.each i (omega (arith, h, all)))
