use Rattle.graph_spec.specs.Members.{at, has}
use Rattle.label_graph.specs.GraphViews.{label_number}
use Rattle.graph_update.specs.PendingChanges.{graph_after}
use Rattle.quotient_draft.specs.Drafts.{shown_blocks, shown_labels, shown_support}
use Rattle.one_spec.specs.FirstCandidates.{AreFirstCandidates}
use Rattle.one_update.proofs.PhaseLaws.{stable_there, labels_but_found, has_graph, reach_cost, stepped}
use Rattle.one_update.proofs.resettling.resettle.Goals as goal

pub split-requires : goal.split-requires
split-requires g c = record {
  over = c.requires.changed.over;
  once = c.requires.targets.once;
  stable = stable_there c.args.after.now.before c.args.after.now.change c.args.targets.now c.args.base.now c.args.draft.now c.requires.before.graph c.requires.before.graph_after
      c.requires.before.fits c.requires.targets c.requires.changed;
  block_labels = labels_but_found c.args.after.now.before c.args.after.now.change c.args.targets.now c.args.base.now c.args.draft.now c.requires.targets c.requires.changed;
  none = c.new-blocks.ensures.items;
  supports = c.requires.changed.supports;
}

pub returns-in_err-split-clause-cost : goal.returns-in_err-split-clause-cost
returns-in_err-split-clause-cost g c =
    reach_cost c.args.after.now.before c.args.after.now.change c.args.targets.now c.args.steps.now c.split.new.steps c.requires.before.graph_after
    c.requires.targets.among c.split.ensures.cost

pub returns-in_err-add_blocks-clause-cost : goal.returns-in_err-add_blocks-clause-cost
returns-in_err-add_blocks-clause-cost g c =
    reach_cost c.args.after.now.before c.args.after.now.change c.args.targets.now c.args.steps.now c.split.new.steps c.requires.before.graph_after
    c.requires.targets.among c.split.ensures.cost

pub returns-in_err-merge-clause-cost : goal.returns-in_err-merge-clause-cost
returns-in_err-merge-clause-cost g c =
    reach_cost c.args.after.now.before c.args.after.now.change c.args.targets.now c.args.steps.now c.split.new.steps c.requires.before.graph_after
    c.requires.targets.among c.split.ensures.cost

pub returns-clause-cost : goal.returns-clause-cost
returns-clause-cost g c =
    reach_cost c.args.after.now.before c.args.after.now.change c.args.targets.now c.args.steps.now c.split.new.steps c.requires.before.graph_after
    c.requires.targets.among c.split.ensures.cost

pub merge-requires-clause-graph : goal.merge-requires-clause-graph
merge-requires-clause-graph g c =
    has_graph (graph_after c.args.after.now) (shown_blocks c.args.base.now c.split.new.draft) (at (shown_labels c.args.base.now c.split.new.draft))
    (shown_support c.args.base.now c.split.new.draft) c.in_ok-split.ensures.supports c.created-known.ensures.few_edges
    c.in_ok-split.ensures.block_labels

pub returns-clause-drafted : goal.returns-clause-drafted
returns-clause-drafted g c =
    let a = c.args.after.now in
    let q = c.args.base.now in
    let added : AreFirstCandidates (has c.args.targets.now) (shown_blocks q c.split.new.draft) c.split.new.new_blocks.items c.add_blocks.new.blocks.items =
    record { new_there = c.in_ok-add_blocks.ensures.kept; targets_there = c.in_ok-add_blocks.ensures.there } in
    record {
      over = c.in_ok-merge.ensures.over;
      step = stepped a.before a.change c.args.targets.now q c.args.draft.now c.split.new.draft (shown_blocks q c.merge.new.draft) c.split.new.new_blocks.items c.add_blocks.new.blocks.items c.requires.before.graph
          c.requires.before.graph_after c.requires.before.fits c.requires.targets c.requires.changed (record { split = c.in_ok-split.ensures.split }) c.in_ok-split.ensures.block_labels
          c.in_ok-split.ensures.supports added (record { merged = c.in_ok-merge.ensures.merged }) c.requires.moves;
      block_labels = c.in_ok-merge.ensures.block_labels (label_number (graph_after a)) c.in_ok-split.ensures.block_labels;
      supports = c.in_ok-merge.ensures.supports (graph_after a) c.in_ok-split.ensures.supports;
    }
