use Rattle.std.proofs.Common.{◌<◌, get_or, sym, subst}
use Rattle.state_sets.proofs.Lists.{has_at}
use Rattle.walk_proof.proofs.row.spread.Goals as goal

pub insert-requires : goal.insert-requires
insert-requires c =
    let m = get_or c.args.places.now c.loop-i.i 0 in
    subst (λ n. m < n) (sym c.loop-i.invariant.size) (c.requires m (has_at c.args.places.now c.loop-i.i c.loop-i-test.true))
