use Rattle.std.proofs.Common.{◌++◌, ◌∷◌, [], ap, ◌∙◌, cond, refl}
use Rattle.std.specs.Prelude.{slice_index}
use Rattle.quotient_draft.specs.Drafts.{shown_blocks}
use Rattle.one_split.specs.Counted.{shares_block}
use Rattle.one_split.proofs.Present.{filter_more}
use Rattle.one_split.proofs.shared_blocks.in_shared_blocks.Goals as goal

pub loop-n-preserved : goal.loop-n-preserved
loop-n-preserved c =
    let p = shown_blocks c.args.base.now c.args.draft.now in
    let nodes = c.args.nodes.now in
    let x = slice_index nodes c.loop-n.n-index in
    let before = c.loop-n.list.items in
    filter_more (shares_block p) nodes before c.push_if.new.list.items c.loop-n.n-index 0 x c.loop-n-test.true c.loop-n.invariant refl
    (c.in_ok-push_if.ensures ∙ ap (λ b. cond b (before ++ x ∷ []) before) c.is_in_shared_block.ensures)
