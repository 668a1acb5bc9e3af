use Rattle.std.proofs.Common.{◌≡◌, ◌-◌, suc, ap, ◌∙◌, arith}
use Rattle.index_file.specs.declared.due.Due.TheVariants.{Ranks}
use Rattle.index_file.proofs.draft.Draft.take_behind_ranks.Goals as goal

pub take_view-requires : goal.take_view-requires
take_view-requires c = record { due = c.requires.due ∙ ap (λ n. Ranks n c.args.views) c.if-ranks-eq0.true }

pub take_rank-requires : goal.take_rank-requires
take_rank-requires c =
    let some = c.if-ranks-eq0.false in
    let more : c.args.ranks ≡ suc (c.args.ranks - 1) = omega (arith, some) in
    record { due = c.requires.due ∙ ap (λ n. Ranks n c.args.views) more }
