use Rattle.graph_spec.specs.Members.{at}
use Rattle.bisim_spec.specs.IndexGraphs.{support_at}
use Rattle.one_merge.proofs.ParentlessLaws.{covers_drafted, covers_kept}
use Rattle.one_merge.proofs.parentless.ParentlessBlocks.note_touched.Goals as goal

pub returns-in_err-note_parentless-clause-kept : goal.returns-in_err-note_parentless-clause-kept
returns-in_err-note_parentless-clause-kept c =
    covers_kept (at c.args.base.now.blocks.labels) (support_at c.args.base.now.supports) c.args.self.now c.note_parentless.new.self c.note_parentless.ensures.kept c.requires.covers

pub returns-in_err-note_parentless-2-clause-kept : goal.returns-in_err-note_parentless-2-clause-kept
returns-in_err-note_parentless-2-clause-kept c =
    covers_kept (at c.args.base.now.blocks.labels) (support_at c.args.base.now.supports) c.args.self.now c.note_parentless-2.new.self (λ l b h. c.note_parentless-2.ensures.kept l b (c.note_parentless.ensures.kept l b h)) c.requires.covers

pub returns-clause-kept : goal.returns-clause-kept
returns-clause-kept c =
    covers_kept (at c.args.base.now.blocks.labels) (support_at c.args.base.now.supports) c.args.self.now c.note_parentless-2.new.self (λ l b h. c.note_parentless-2.ensures.kept l b (c.note_parentless.ensures.kept l b h)) c.requires.covers

pub returns-clause-shown : goal.returns-clause-shown
returns-clause-shown c =
    let q = c.args.base.now in
    covers_drafted q c.args.draft.now c.args.self.now c.note_parentless.new.self c.note_parentless-2.new.self c.drafted_blocks.result.now c.drafted_ends.result.now c.requires.covers c.note_parentless.ensures.kept
    c.note_parentless-2.ensures.kept (λ b h. c.drafted_blocks.ensures q.blocks.labels b h) (λ a b h. c.drafted_ends.ensures q.supports a b h) c.in_ok-note_parentless.ensures.noted c.in_ok-note_parentless-2.ensures.noted
