use Rattle.std.proofs.Common.{◌+◌, sym, subst, arith}
use Rattle.graph_steps.specs.StepLists.{steps_of}
use Rattle.graph_steps.specs.StepLinks.{IsAhead}
use Rattle.graph_steps.proofs.StepLinks.{ahead_there, no_further}
use Rattle.graph_steps.proofs.links.along.Goals as goal

pub loop-place-preserved : goal.loop-place-preserved
loop-place-preserved c =
    let ss = c.args.steps.now in
    let n = c.args.n in
    let place = c.loop-place.place in
    let few = c.ranges.from.fits in
    let below = c.loop-place-test.true in
    let here = ahead_there (steps_of ss) n c.args.from place below (omega (arith, few)) c.loop-place.invariant in
    subst (IsAhead n (steps_of ss) c.args.from) (sym c.link_at-place.ensures) (no_further (steps_of ss) n (place + 1) _ c.args.from (omega (arith, below)) (c.requires.links.next place n here).ahead)

pub loop-place-smaller : goal.loop-place-smaller
loop-place-smaller c =
    let ss = c.args.steps.now in
    let n = c.args.n in
    let place = c.loop-place.place in
    let few = c.ranges.from.fits in
    let below = c.loop-place-test.true in
    let here = ahead_there (steps_of ss) n c.args.from place below (omega (arith, few)) c.loop-place.invariant in
    let beyond = (c.requires.links.next place n here).ordered in
    let is = c.link_at-place.ensures in
    omega (arith, below, beyond, is)
