use Rattle.std.proofs.Common.{◌≡◌, ◌∙◌, Option, ℕ, sym, subst, ap, unwrap_or}
use Rattle.std.specs.Prelude.{OnOk}
use Rattle.std.proofs.lemmas.Result.{IfOk-weaker}
use Rattle.graph_spec.specs.Members.{at}
use Rattle.quotient_draft.specs.Drafts.{with_moves, with_left}
use Rattle.quotient_draft.specs.MoveTables.{KeptMoves}
use Rattle.quotient_draft.proofs.DraftedMoves.{at_moves}
use Rattle.quotient_draft.proofs.moves.Moves.put.Goals as goal

pub returns-in-Some-clause-left : goal.returns-in-Some-clause-left
returns-in-Some-clause-left c =
    let block = c.args.base.now.blocks.block_of in
    let es = c.self.inside.moves.entries in
    let own = ap (λ o. unwrap_or o (at block c.args.n)) c.in-Some.ensures.value ∙ sym (at_moves block es c.args.n c.self.invariant.once) ∙ ap (λ (k : KeptMoves). at (with_moves block k.moves) c.args.n) c.self.view_is in
    subst (λ (o : Option ℕ). OnOk c.put_again.result (c.put_again.new.self.left ≡ with_left c.args.self.now.left o)) own c.put_again.ensures.left

pub returns-in-Some-clause-taken : goal.returns-in-Some-clause-taken
returns-in-Some-clause-taken c = IfOk-weaker c.put_again.result _ _ (λ _ h. h c.args.base.now.blocks.block_of) c.put_again.ensures.taken

pub returns-in-None-clause-left : goal.returns-in-None-clause-left
returns-in-None-clause-left c =
    let block = c.args.base.now.blocks.block_of in
    let es = c.self.inside.moves.entries in
    let own = c.block_of.ensures.block ∙ ap (λ o. unwrap_or o (at block c.args.n)) c.in-None.ensures.value ∙ sym (at_moves block es c.args.n c.self.invariant.once)
    ∙ ap (λ (k : KeptMoves). at (with_moves block k.moves) c.args.n) c.self.view_is in
    subst (λ (o : Option ℕ). OnOk c.put_first.result (c.put_first.new.self.left ≡ with_left c.args.self.now.left o)) own c.put_first.ensures.left
