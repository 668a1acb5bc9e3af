use Rattle.std.proofs.Common.{◌≤◌, ◌^◌, arith, subst, ap, length}
use Rattle.quotient_draft.specs.Drafts.{Drafted}
use Rattle.quotient_draft.proofs.Settled.{added_fit}
use Rattle.quotient_draft.proofs.draft.Draft.further.Goals as goal

pub returns-clause-count : goal.returns-clause-count
returns-clause-count c =
    let few = subst (λ n. n ≤ 2 ^ 31) c.blocks-2.ensures.count c.blocks-2.ensures.few in
    let fit = added_fit c.args.base.now.blocks.block_of c.args.base.now.blocks.labels c.args.self.now c.requires.over few in
    let count = c.blocks-2.ensures.count in
    let len = c.len.ensures in
    let all = ap (λ (d : Drafted). length d.added) c.self.view_is in
    let least = c.min.ensures in
    omega (arith, fit, count, len, all, least)
