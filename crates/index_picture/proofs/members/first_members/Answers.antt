use Rattle.std.proofs.Common.{◌≡◌, ◌≤◌, ◌∙◌, ap, sym, arith, length}
use Rattle.block_partition.specs.LabelledPartitions.{is_member}
use Rattle.index_picture.specs.DrawnBlocks.{firsts_below}
use Rattle.index_picture.proofs.FirstLaws.{firsts_full}
use Rattle.index_picture.proofs.members.first_members.Goals as goal
use Rattle.index_picture.proofs.members.first_members.Goals.{then-loop-n-test+else-len-most, else-loop-n-test}

pub returns : goal.returns
returns c =
    let p = is_member c.args.summary.now.blocks c.args.b in
    let size = length c.args.summary.now.blocks.block_of in
    elim c.loop-n-test.branch [
      | then-loop-n-test+else-len-most w ↦ (
          let is = c.loop-n.invariant.members in
          let a = w.if-len-most.false in
          let b = w.len.ensures in
          let e = ap length is in
          is ∙ sym (firsts_full c.args.most p c.loop-n.n size (omega (arith, a, b, e)) c.loop-n.invariant.within))
      | else-loop-n-test w ↦ (
          let a = w.loop-n-test.false in
          let b = c.loop-n.invariant.within in
          let d = c.numbers.ensures.count in
          let e : c.loop-n.n ≡ size = omega (arith, a, b, d) in
          c.loop-n.invariant.members ∙ ap (firsts_below c.args.most p) e)
    ]
