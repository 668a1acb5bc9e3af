use Rattle.std.proofs.Common.{ℕ, List, ◌∙◌, length, sym, ap, arith}
use Rattle.keyed_quotient.proofs.Compacted.{carried_next, carried_past}
use Rattle.keyed_quotient.proofs.compacting.carry.Goals as goal

pub give-requires-clause-span : goal.give-requires-clause-span
give-requires-clause-span c =
    let within = c.requires.within in
    let span = c.requires.before.span in
    let stays = ap (λ (xs : List ℕ). length xs) c.in_ok-know.ensures.number_of in
    omega (arith, within, span, stays)

pub returns-in_ok-know : goal.returns-in_ok-know
returns-in_ok-know c =
    let k = c.in_ok-know.ensures.interns in
    carried_next c.args.summary.now.blocks.labels c.args.old.now c.args.new.now c.know.new.self c.give.new.self c.args.b k.0 c.key_in-key.result.now c.requires.numbering c.requires.within (sym c.is_block.ensures.block ∙ c.if-is_block.true) c.key_in-key.ensures
    c.requires.before c.in_ok-know.ensures.grows (c.in_ok-know.ensures.distinct c.requires.before.distinct) c.in_ok-know.ensures.fits c.in_ok-know.ensures.number_of k.1 c.give.ensures.given

pub returns-else-is_block : goal.returns-else-is_block
returns-else-is_block c = carried_past c.args.summary.now.blocks.labels c.args.old.now c.args.new.now c.args.b c.requires.within (sym c.is_block.ensures.block ∙ c.if-is_block.false) c.requires.before
