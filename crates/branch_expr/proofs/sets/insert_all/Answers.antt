use Rattle.std.proofs.Common.{refl, arith}
use Rattle.std.specs.Prelude.{nat_eq, slice_index}
use Rattle.std.proofs.lemmas.Bool.Decides.{Decides-eqb}
use Rattle.std.proofs.lemmas.List.Folds.{list_any_at}
use Rattle.branch_expr.proofs.sets.insert_all.Goals as goal

pub insert-requires : goal.insert-requires
insert-requires c =
    let n = slice_index c.args.list.now c.loop-i.i in
    let below = c.requires n (list_any_at (nat_eq n) c.args.list.now c.loop-i.i 0 c.loop-i-test.true ((Decides-eqb n n).1 refl)) in
    let size = c.loop-i.invariant.size in
    omega (arith, below, size)
