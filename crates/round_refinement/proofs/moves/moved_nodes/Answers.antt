use Rattle.std.proofs.Common.{◌≡◌, ℕ, arith, length, subst}
use Rattle.round_refinement.specs.Active.{AreMoved}
use Rattle.round_refinement.proofs.moves.moved_nodes.Goals as goal

pub returns : goal.returns
returns c =
    let t = c.loop-i-test.false in
    let w = c.loop-i.invariant.within in
    let same : c.loop-i.i ≡ length c.args.active.now = omega (arith, t, w) in
    subst (λ (k : ℕ). AreMoved c.args.block.now c.args.active.now c.args.groups.now c.args.names.now k c.loop-i.moved.items) same c.loop-i.invariant.moved
