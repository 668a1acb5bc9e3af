use Rattle.std.proofs.Common.{◌≡◌, ◌-◌, suc, ap, ◌∙◌, arith}
use Rattle.index_file.specs.declared.due.Due.TheVariants.{EdgesLeft}
use Rattle.index_file.proofs.draft.Draft.take_behind_edges.Goals as goal

pub take_view_count-requires : goal.take_view_count-requires
take_view_count-requires c = record { due = c.requires.due ∙ ap EdgesLeft c.if-count-eq0.true }

pub take_edge-requires : goal.take_edge-requires
take_edge-requires c =
    let some = c.if-count-eq0.false in
    let more : c.args.count ≡ suc (c.args.count - 1) = omega (arith, some) in
    record { due = c.requires.due ∙ ap EdgesLeft more }
