use Rattle.std.proofs.Common.{sym, subst}
use Rattle.bisim_spec.specs.IndexGraphs.{View}
use Rattle.one_merge.specs.ParentlessBlocks.{CoversShown}
use Rattle.one_maintain.proofs.summary.fill.Goals as goal

pub returns-clause-shown : goal.returns-clause-shown
returns-clause-shown g c =
    let old = c.args.base.now in
    subst (λ (v : View). CoversShown (record old { blocks = record old.blocks { block_of = v.block_of; labels = v.labels }; supports = v.supports }) c.draft_change.new.draft c.draft_change.new.parentless)
    (sym c.reserve.ensures.same) c.in_ok-draft_change.ensures.shown
