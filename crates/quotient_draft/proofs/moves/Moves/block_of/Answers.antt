use Rattle.std.proofs.Common.{◌∙◌, sym, ap, unwrap_or}
use Rattle.graph_spec.specs.Members.{at}
use Rattle.quotient_draft.specs.Drafts.{with_moves}
use Rattle.quotient_draft.specs.MoveTables.{KeptMoves}
use Rattle.quotient_draft.proofs.DraftedMoves.{at_moves}
use Rattle.quotient_draft.proofs.moves.Moves.block_of.Goals as goal

pub returns-in-Some-clause-block : goal.returns-in-Some-clause-block
returns-in-Some-clause-block c =
    let block = c.args.base.now.blocks.block_of in
    let es = c.self.inside.moves.entries in
    ap (λ o. unwrap_or o (at block c.args.n)) c.in-Some.ensures.value ∙ sym (at_moves block es c.args.n c.self.invariant.once)
    ∙ ap (λ (k : KeptMoves). at (with_moves block k.moves) c.args.n) c.self.view_is

pub returns-in-None-clause-block : goal.returns-in-None-clause-block
returns-in-None-clause-block c =
    let block = c.args.base.now.blocks.block_of in
    let es = c.self.inside.moves.entries in
    c.block_of.ensures.block ∙ ap (λ o. unwrap_or o (at block c.args.n)) c.in-None.ensures.value ∙ sym (at_moves block es c.args.n c.self.invariant.once)
    ∙ ap (λ (k : KeptMoves). at (with_moves block k.moves) c.args.n) c.self.view_is
