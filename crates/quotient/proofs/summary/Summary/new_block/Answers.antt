use Rattle.std.proofs.Common.{◌<◌, ap, sym, subst}
use Rattle.block_partition.specs.LabelledPartitions.{Partition, IsLeastFree}
use Rattle.quotient.specs.Quotients.{Quotient}
use Rattle.quotient.proofs.Edited.{sound_more}
use Rattle.quotient.proofs.summary.Summary.new_block.Goals as goal

pub invariant_of-self : goal.invariant_of-self
invariant_of-self c =
    let j = c.self.inside.block_edges in
    let least = subst (λ (q : Quotient). IsLeastFree q.blocks.labels c.new_block.result) c.self.view_is c.new_block.ensures.least in
    let below = subst (λ (q : Quotient). c.new_block.result < q.reserved.span) (sym c.self.view_is) (c.requires.span c.new_block.result least) in
    sound_more c.self.inside.blocks c.new_block.new.self j.supports.pairs j.children.lists j.parents.lists c.new_block.result c.args.label c.self.invariant
    (ap (λ (p : Partition). p.labels) c.new_block.ensures.added) c.new_block.ensures.labels below
