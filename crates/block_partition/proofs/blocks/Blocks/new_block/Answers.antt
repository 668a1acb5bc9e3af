use Rattle.std.proofs.Common.{◌∙◌, ap}
use Rattle.graph_spec.specs.Members.{at}
use Rattle.block_partition.proofs.PutNumbers.{at_put}
use Rattle.block_partition.proofs.blocks.Blocks.new_block.Goals as goal

pub returns-then-b-span-clause-labels : goal.returns-then-b-span-clause-labels
returns-then-b-span-clause-labels c = λ m.
    ap (λ p. at p.labels m) c.make_again.ensures ∙ at_put c.args.self.now.labels c.next_free-b.result c.args.label m

pub returns-else-b-span-clause-labels : goal.returns-else-b-span-clause-labels
returns-else-b-span-clause-labels c = λ m.
    ap (λ p. at p.labels m) c.make_next.ensures ∙ at_put c.args.self.now.labels c.next_free-b.result c.args.label m
