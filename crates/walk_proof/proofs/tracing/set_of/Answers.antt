use Rattle.std.proofs.Common.{◌<◌, get_or, sym, subst}
use Rattle.state_sets.proofs.Lists.{has_at}
use Rattle.walk_proof.proofs.tracing.set_of.Goals as goal

pub insert-requires : goal.insert-requires
insert-requires c =
    let s = get_or c.args.states.now c.loop-i.i 0 in
    subst (λ n. s < n) (sym c.loop-i.invariant.size) (c.requires s (has_at c.args.states.now c.loop-i.i c.loop-i-test.true))
