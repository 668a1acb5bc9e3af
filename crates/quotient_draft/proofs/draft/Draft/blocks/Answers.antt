use Rattle.std.proofs.Common.{arith}
use Rattle.quotient_draft.proofs.Settled.{added_count}
use Rattle.quotient_draft.proofs.draft.Draft.blocks.Goals as goal

pub returns : goal.returns
returns c =
    let all = added_count c.args.base.now.blocks.labels c.args.self.now.added c.requires.over.least in
    let count = c.blocks-2.ensures.count in
    let more = c.further.ensures.count in
    omega (arith, all, count, more)
