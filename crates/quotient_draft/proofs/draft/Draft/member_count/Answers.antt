use Rattle.std.proofs.Common.{sym, subst}
use Rattle.quotient_draft.specs.Basis.{IsOver}
use Rattle.quotient_draft.proofs.draft.Draft.member_count.Goals as goal

pub member_count-requires-clause-taken : goal.member_count-requires-clause-taken
member_count-requires-clause-taken c =
    let o = subst (IsOver c.args.base.now.blocks.block_of c.args.base.now.blocks.labels) (sym c.self.view_is) c.requires.over in
    o.taken

pub member_count-requires-clause-numbers : goal.member_count-requires-clause-numbers
member_count-requires-clause-numbers c =
    let o = subst (IsOver c.args.base.now.blocks.block_of c.args.base.now.blocks.labels) (sym c.self.view_is) c.requires.over in
    o.numbers
