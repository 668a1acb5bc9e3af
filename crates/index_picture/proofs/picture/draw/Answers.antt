use Rattle.std.proofs.Common.{◌++◌, ◌∙◌, ap}
use Rattle.graph_spec.specs.Graphs.{has_edge}
use Rattle.index_picture.specs.Pictures.{head_text, block_lines, pair_lines, note_line, tail_text}
use Rattle.index_picture.proofs.ListLaws.{then_push}
use Rattle.index_picture.proofs.picture.draw.Goals as goal

pub returns : goal.returns
returns c =
    let g = c.args.graph.now.graph in
    let p = c.args.summary.now.blocks in
    let b = block_lines g.seen c.args.names.now c.args.most p c.args.blocks.now ++ pair_lines (has_edge g) p c.args.pairs.now in
    let e = note_line c.args.other_blocks c.args.other_pairs ++ tail_text in
    let z = c.push_end.new.out.items in
    then_push c.new-out.result.items c.extend_from_slice.new.self.items z head_text (b ++ e) c.in_ok-extend_from_slice.ensures.items
    (then_push c.extend_from_slice.new.self.items c.push_drawn.new.out.items z b e c.in_ok-push_drawn.ensures c.in_ok-push_end.ensures)
    ∙ ap (λ o. o ++ (head_text ++ (b ++ e))) c.new-out.ensures.items
