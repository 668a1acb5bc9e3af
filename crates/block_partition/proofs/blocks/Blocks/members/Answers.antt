use Rattle.block_partition.proofs.MemberLinkLaws.{members_of}
use Rattle.block_partition.proofs.blocks.Blocks.members.Goals as goal

pub returns : goal.returns
returns c =
    rw (← c.self.view_is, c.new.ensures, c.get.ensures.place, c.len.ensures) (members_of _ _ _ _ c.args.b c.self.invariant.mirrored)
