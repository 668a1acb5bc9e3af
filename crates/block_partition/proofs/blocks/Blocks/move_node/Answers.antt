use Rattle.std.proofs.Math.Seq.{set-set}
use Rattle.std.proofs.Common.{refl}
use Rattle.block_partition.proofs.blocks.Blocks.move_node.Goals as goal

pub returns : goal.returns
returns c = rw (c.link.ensures, c.take_out.ensures, set-set) refl
