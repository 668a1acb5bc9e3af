use Rattle.one_update.proofs.PendingChanges.{alone_from, unlink_counts, unlink_changed, unlink_yes, unlink_no}
use Rattle.one_update.proofs.linking.draft_unlink.Goals as goal

pub lower-requires-clause-some : goal.lower-requires-clause-some
lower-requires-clause-some g c =
    unlink_counts c.args.after.now c.args.base.now c.args.draft.now c.args.u c.args.v c.own_block-a.result c.own_block-b.result c.requires.before c.requires.unlinks c.requires.empty
    (record { from = c.own_block-a.ensures.block; onto = c.own_block-b.ensures.block })

pub returns-clause-changed : goal.returns-clause-changed
returns-clause-changed g c =
    unlink_changed c.args.after.now c.args.base.now c.args.draft.now c.lower.new.self c.args.u c.args.v c.own_block-a.result c.own_block-b.result c.requires.before c.requires.unlinks
    c.requires.empty (record { from = c.own_block-a.ensures.block; onto = c.own_block-b.ensures.block }) c.in_ok-lower.ensures.lowered
    (alone_from c.args.draft.now c.lower.new.self c.requires.empty c.lower.ensures.added c.lower.ensures.moves) c.in_ok-lower.ensures.over

pub returns-clause-yes : goal.returns-clause-yes
returns-clause-yes g c = λ some. unlink_yes c.args.after.now c.args.base.now c.args.u c.args.v c.own_block-a.result c.requires.unlinks c.own_block-a.ensures.block (c.has_parent_in.ensures.yes some)

pub returns-clause-no : goal.returns-clause-no
returns-clause-no g c = λ none. unlink_no c.args.after.now c.args.base.now c.args.u c.args.v c.own_block-a.result c.own_block-a.ensures.block (c.has_parent_in.ensures.no none)
