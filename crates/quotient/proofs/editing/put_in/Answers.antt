use Rattle.std.proofs.Common.{◌≡◌, ◌∙◌, ap, sym, true}
use Rattle.graph_spec.specs.Members.{at}
use Rattle.std.specs.Prelude.{is_some}
use Rattle.block_partition.specs.LabelledPartitions.{Partition}
use Rattle.quotient.proofs.Edited.{put_moved, member_reserved}
use Rattle.quotient.proofs.editing.put_in.Goals as goal

pub returns-then-is_some-clause-put : goal.returns-then-is_some-clause-put
returns-then-is_some-clause-put c =
    let some : is_some (at c.args.blocks.now.block_of c.args.n) ≡ true = ap is_some (sym c.block_of.ensures.block) ∙ sym c.is_some.ensures ∙ c.if-is_some.true in
    ap (λ (p : Partition). p.block_of) c.move_node.ensures ∙ put_moved c.args.blocks.now.block_of c.args.n c.args.b some

pub returns-else-is_some-clause-nodes : goal.returns-else-is_some-clause-nodes
returns-else-is_some-clause-nodes c = member_reserved c.args.blocks.now c.place.new.self c.args.n c.args.b c.place.ensures.placed c.requires.within
