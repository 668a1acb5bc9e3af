use Rattle.std.proofs.Common.{◌∙◌, arith}
use Rattle.block_partition.proofs.FreedNumbers.{group_size, next_size, runs_widened}
use Rattle.block_partition.proofs.freed.widen_to.Goals as goal

pub widen-requires-clause-size : goal.widen-requires-clause-size
widen-requires-clause-size c = (group_size c.levels.level c.levels.size (omega arith) c.levels.invariant.size).0

pub widen-requires-clause-few : goal.widen-requires-clause-few
widen-requires-clause-few c = (group_size c.levels.level c.levels.size (omega arith) c.levels.invariant.size).1

pub overflow_mul-size : goal.overflow_mul-size
overflow_mul-size c =
    let few = (group_size c.levels.level c.levels.size (omega arith) c.levels.invariant.size).1 in
    omega (arith, few)

pub levels-preserved : goal.levels-preserved
levels-preserved c =
    let i = c.levels.invariant in
    let e = c.widen.ensures in
    record {
      size = next_size c.levels.level c.levels.size i.size;
      most = omega arith;
      full = λ labels old all.
          runs_widened labels c.levels.full.items c.widen.new.full.items c.levels.level c.args.run c.args.end (omega arith)
          (rw i.size at e.end) (rw i.size at e.within) (rw i.size at e.others) all (i.full labels old all);
      len = c.widen.ensures.len ∙ i.len;
    }
