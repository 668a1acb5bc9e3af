use Rattle.std.proofs.Common.{arith, sym, ◌∙◌, ap, true≢false}
use Rattle.graph_spec.specs.Members.{at}
use Rattle.round_refinement.proofs.NeighbourBlocks.{place_of}
use Rattle.index_check.proofs.outer.has_inner_parent.Goals as goal

pub returns : goal.returns
returns g c = (
  λ h. absurd (true≢false (sym h)),
  λ t.
      let i = place_of c.parents-parents.result.now t.0 (c.parents-parents.ensures.members t.0 ∙ t.1) in
      let low = i.1 in
      let end = c.loop-i-test.false in
      absurd (c.loop-i.invariant i.0 (omega (arith, low, end)) (ap (at c.args.block.now) i.2 ∙ t.2.1 ∙ sym t.2.2 ∙ sym c.block_of-own.ensures)),
)
