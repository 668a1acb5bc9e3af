use Rattle.std.proofs.Common.{refl, arith}
use Rattle.std.specs.Prelude.{nat_eq, slice_index}
use Rattle.std.proofs.lemmas.Bool.Decides.{Decides-eqb}
use Rattle.std.proofs.lemmas.List.Folds.{list_any_at}
use Rattle.branch_expr.proofs.sets.keep_listed.Goals as goal

pub remove_unless-requires : goal.remove_unless-requires
remove_unless-requires g c =
    let n = slice_index c.args.list.now c.loop-i.i in
    let below = c.requires n (list_any_at (nat_eq n) c.args.list.now c.loop-i.i 0 c.loop-i-test.true ((Decides-eqb n n).1 refl)) in
    let size = c.loop-i.invariant.size in
    omega (arith, below, size)
