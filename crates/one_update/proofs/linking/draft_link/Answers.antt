use Rattle.one_update.proofs.PendingChanges.{alone_from, few_base, link_changed, link_yes, link_no}
use Rattle.one_update.proofs.linking.draft_link.Goals as goal

pub raise-requires-clause-few : goal.raise-requires-clause-few
raise-requires-clause-few c = few_base c.args.after.now c.args.base.now c.args.draft.now c.own_block-a.result c.own_block-b.result c.requires.before c.requires.empty

pub returns-clause-changed : goal.returns-clause-changed
returns-clause-changed c =
    link_changed c.args.after.now c.args.base.now c.args.draft.now c.raise.new.self c.args.u c.args.v c.own_block-a.result c.own_block-b.result c.requires.before c.requires.links
    c.requires.empty (record { from = c.own_block-a.ensures.block; onto = c.own_block-b.ensures.block }) c.in_ok-raise.ensures.raised
    (alone_from c.args.draft.now c.raise.new.self c.requires.empty c.raise.ensures.added c.raise.ensures.moves) c.in_ok-raise.ensures.over

pub returns-clause-yes : goal.returns-clause-yes
returns-clause-yes c = λ some.
    link_yes c.args.after.now c.args.base.now c.args.u c.args.v c.own_block-a.result c.own_block-b.result c.support-supported.result c.requires.before c.requires.links
    (record { from = c.own_block-a.ensures.block; onto = c.own_block-b.ensures.block }) c.support-supported.ensures some

pub returns-clause-no : goal.returns-clause-no
returns-clause-no c = λ none.
    link_no c.args.after.now c.args.base.now c.args.u c.args.v c.own_block-a.result c.own_block-b.result c.support-supported.result c.requires.before c.requires.links
    (record { from = c.own_block-a.ensures.block; onto = c.own_block-b.ensures.block }) c.support-supported.ensures none
