use Rattle.std.proofs.Common.{◌∷◌, [], ◌++◌, ℕ, Option, ap, ◌∙◌, cond, refl}
use Rattle.graph_spec.specs.Members.{at}
use Rattle.bisim_spec.proofs.Bisimilar.{is_some_at}
use Rattle.quotient_draft.specs.Drafts.{shown_labels}
use Rattle.one_split.proofs.Present.{told_some}
use Rattle.one_split.proofs.target_blocks.find_target_block.Goals as goal

pub returns-then-may_stay-clause-stays : goal.returns-then-may_stay-clause-stays
returns-then-may_stay-clause-stays c =
    let f = c.may_stay.ensures.yes c.if-may_stay.true in
    (f.0, c.in_ok-insert.ensures.keys ∙ ap (λ b. cond b c.args.stays.now.keys (c.args.stays.now.keys ++ c.args.own ∷ [])) f.0, f.1)

pub returns-clause-goes : goal.returns-clause-goes
returns-clause-goes c =
    let labels : ℕ → Option ℕ = at (shown_labels c.args.base.now c.args.draft.now) in
    let labels2 : ℕ → Option ℕ = at (shown_labels c.args.base.now c.draft_block.new.draft) in
    let some = is_some_at (labels2 c.in_ok-b.b) c.label.result (told_some labels labels2 c.in_ok-b.b c.label.result c.in_ok-b.ensures.label) in
    (refl, c.in_ok-b.ensures.empty, c.in_ok-b.ensures.free, some, c.may_stay.ensures.no c.if-may_stay.false)
