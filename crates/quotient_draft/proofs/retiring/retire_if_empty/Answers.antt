use Rattle.std.proofs.Common.{◌∙◌, arith, sym, inr}
use Rattle.quotient_draft.proofs.Gone.{none_counted, some_counted, retired_one, retired_none}
use Rattle.quotient_draft.proofs.retiring.retire_if_empty.Goals as goal

pub retire_block-requires-clause-from : goal.retire_block-requires-clause-from
retire_block-requires-clause-from c = λ d. c.requires.from c.args.b d (none_counted c.args.base.now.blocks.block_of c.args.b (sym c.member_count.ensures ∙ c.if-member_count-eq0.true))

pub retire_block-requires-clause-onto : goal.retire_block-requires-clause-onto
retire_block-requires-clause-onto c = λ d. c.requires.onto c.args.b d (none_counted c.args.base.now.blocks.block_of c.args.b (sym c.member_count.ensures ∙ c.if-member_count-eq0.true))

pub returns-then-member_count-eq0 : goal.returns-then-member_count-eq0
returns-then-member_count-eq0 c =
    retired_one c.args.base.now c.retire_block.new.self c.args.b (none_counted c.args.base.now.blocks.block_of c.args.b (sym c.member_count.ensures ∙ c.if-member_count-eq0.true)) c.retire_block.ensures

pub returns-else-member_count-eq0 : goal.returns-else-member_count-eq0
returns-else-member_count-eq0 c =
    let apart = c.if-member_count-eq0.false in
    let is = c.member_count.ensures in
    retired_none c.args.base.now c.args.b (inr (some_counted c.args.base.now.blocks.block_of c.args.b (omega (arith, apart, is))))
