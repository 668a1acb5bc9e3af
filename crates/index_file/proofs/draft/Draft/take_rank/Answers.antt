use Rattle.std.proofs.Common.{◌≡◌, suc, ◌∙◌, ap, sym, arith}
use Rattle.index_file.specs.declared.due.Due.TheVariants.{Ranks}
use Rattle.index_file.specs.Readings.{Reading}
use Rattle.index_file.specs.Readings.{with_rank}
use Rattle.index_file.specs.Drafts.{ranks_left}
use Rattle.index_file.proofs.StepLaws.{wrong_rank}
use Rattle.index_file.proofs.DraftLaws.{rank_taken_at, rank_wrong, draft_rank, same_views, few_last}
use Rattle.index_file.proofs.draft.Draft.take_rank.Goals as goal

pub push_rank-requires : goal.push_rank-requires
push_rank-requires c =
    let due : ranks_left c.self.inside.due ≡ suc c.args.left = ap (λ (r : Reading). ranks_left r.due) c.self.view_is ∙ ap ranks_left c.requires.due in
    let few = c.self.invariant.few_ranks in
    record { few = omega (arith, few, due) }

pub returns-in_default-clause-wrong : goal.returns-in_default-clause-wrong
returns-in_default-clause-wrong c = λ _.
    wrong_rank c.args.limits.now c.args.line.now c.args.self.now c.args.left c.args.count c.requires.due (λ x h. absurd (c.in_default.ensures.none x h))

pub returns-in-Ok-clause-taken : goal.returns-in-Ok-clause-taken
returns-in-Ok-clause-taken c =
    rank_taken_at c.args.limits.now c.args.line.now c.args.self.now c.args.left c.args.count c.requires.due (few_last _ _ c.self.view_is c.self.invariant) c.in-Some.rank c.in-Some.ensures.found _
    c.push_rank.new.self (ap (λ (r : Reading). with_rank r.views c.in-Some.rank) (sym c.self.view_is) ∙ c.in-Ok.ensures.ok)
    (ap (λ (r : Reading). record r { due = Ranks c.args.left c.args.count; views = c.push_rank.new.self }) c.self.view_is)

pub returns-in-Err-clause-over : goal.returns-in-Err-clause-over
returns-in-Err-clause-over c = λ h. absurd (c.in-Err.ensures.over h)

pub returns-in-Err-clause-wrong : goal.returns-in-Err-clause-wrong
returns-in-Err-clause-wrong c = λ h.
    rank_wrong c.args.limits.now c.args.line.now c.args.self.now c.args.left c.args.count c.requires.due (few_last _ _ c.self.view_is c.self.invariant) c.in-Some.rank c.in-Some.ensures.found
    (ap (λ (r : Reading). with_rank r.views c.in-Some.rank) (sym c.self.view_is) ∙ c.in-Err.ensures.wrong h)

pub invariant_of-self : goal.invariant_of-self
invariant_of-self c =
    draft_rank _ c.self.invariant c.args.left c.args.count c.in-Some.rank c.push_rank.new.self (ap (λ (r : Reading). r.due) c.self.view_is ∙ c.requires.due) c.in-Ok.ensures.ok

pub invariant_of-self-in-Err : goal.invariant_of-self-in-Err
invariant_of-self-in-Err c = same_views _ c.self.invariant _ c.in-Err.ensures.err
