use Rattle.std.proofs.Common.{◌∙◌, sym, ap, arith, ◌<◌, ◌≤◌, length}
use Rattle.block_partition.specs.Tables.{grown}
use Rattle.block_partition.proofs.Growth.{grown_step, grown_done}
use Rattle.block_partition.proofs.slots.Slots.grow.Goals as goal

pub loop-self-preserved : goal.loop-self-preserved
loop-self-preserved c =
    let more : length c.loop-self.self.places < c.args.len = omega arith in (
      ap (λ t. t.capacity) c.push_none.ensures ∙ c.loop-self.invariant.0,
      ap (λ t. grown t.places c.args.len) c.push_none.ensures ∙ grown_step c.loop-self.self.places c.args.len more ∙ c.loop-self.invariant.1,
    )

pub returns : goal.returns
returns c =
    let done : c.args.len ≤ length c.loop-self.self.places = omega arith in
    λ i. record {
      places = (sym (grown_done c.loop-self.self.places c.args.len done) ∙ c.loop-self.invariant.1) i;
      capacity = c.loop-self.invariant.0 i;
    }
