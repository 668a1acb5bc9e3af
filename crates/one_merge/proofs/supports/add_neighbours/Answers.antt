use Rattle.quotient_draft.specs.Drafts.{shown_support}
use Rattle.one_merge.specs.Merged.{support_by}
use Rattle.one_merge.proofs.Columns.{column_more, column_few}
use Rattle.std.proofs.Common.{◌∙◌, get_or}
use Rattle.one_merge.proofs.supports.add_neighbours.Goals as goal

pub add_neighbour-requires-clause-few : goal.add_neighbour-requires-clause-few
add_neighbour-requires-clause-few c =
    let x = get_or c.args.list.now c.loop-i.i 0 in
    column_few c.args.a c.args.b c.loop-i.i x c.args.list.now (support_by c.args.side (shown_support c.args.base.now c.args.draft.now)) (support_by c.args.side (shown_support c.args.base.now c.loop-i.draft))
    c.requires.apart (c.requires.few x) c.loop-i.invariant.supports

pub loop-i-preserved : goal.loop-i-preserved
loop-i-preserved c = record {
  supports = column_more c.args.a c.args.b c.loop-i.i 0 c.args.list.now (support_by c.args.side (shown_support c.args.base.now c.args.draft.now)) (support_by c.args.side (shown_support c.args.base.now c.loop-i.draft))
      (support_by c.args.side (shown_support c.args.base.now c.add_neighbour.new.draft)) c.requires.apart c.loop-i-test.true c.loop-i.invariant.supports c.in_ok-add_neighbour.ensures.supports;
  added = c.in_ok-add_neighbour.ensures.added ∙ c.loop-i.invariant.added;
  moves = c.in_ok-add_neighbour.ensures.moves ∙ c.loop-i.invariant.moves;
  over = c.in_ok-add_neighbour.ensures.over;
}
