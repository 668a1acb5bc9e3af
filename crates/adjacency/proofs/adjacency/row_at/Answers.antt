use Rattle.std.proofs.Common.{get_or, ap, sym, ◌∙◌}
use Rattle.std.specs.List.{slice_range}
use Rattle.adjacency.proofs.RowLaws.{row_in}
use Rattle.adjacency.proofs.adjacency.row_at.Goals as goal

pub returns : goal.returns
returns c =
    let ends = c.args.ends.now in
    let items = c.args.items.now in
    c.part.ensures ∙ ap (λ b. slice_range items b (get_or ends c.args.n 0)) c.start_of-from.ensures ∙ sym (row_in 0 ends items c.args.n c.requires.node)
