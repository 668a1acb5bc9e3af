use Rattle.graph_update.specs.PendingChanges.{graph_after}
use Rattle.one_update.proofs.IndexEffects.{index_base, index_start, index_done}
use Rattle.one_update.proofs.effects.draft_effects.Goals as goal

pub add_nodes-requires-clause-start : goal.add_nodes-requires-clause-start
add_nodes-requires-clause-start c =
    let b = c.requires.before in
    index_start c.args.after.now.before (graph_after c.args.after.now) c.args.base.now c.args.draft.now (index_base c.args.after.now.before c.args.base.now b.graph b.fits) c.requires.empty

pub returns : goal.returns
returns c =
    let b = c.requires.before in
    record {
      changed = index_done c.args.after.now.before c.args.after.now.change c.args.effects.now c.args.base.now c.raise_edges.new.draft c.requires.effects b.graph_after
          (index_base c.args.after.now.before c.args.base.now b.graph b.fits) c.in_ok-raise_edges.ensures.raised;
    }
