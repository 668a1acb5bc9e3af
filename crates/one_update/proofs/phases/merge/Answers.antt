use Rattle.std.proofs.Common.{◌∙◌, sym, subst}
use Rattle.std.proofs.lemmas.Bool.{and_parts}
use Rattle.graph_spec.specs.Graphs.{is_live}
use Rattle.change_spec.specs.Altered.{altered}
use Rattle.graph_spec.specs.Members.{at, Lists}
use Rattle.graph_update.specs.PendingChanges.{graph_after}
use Rattle.quotient_draft.specs.Drafts.{shown_blocks, shown_labels, shown_support}
use Rattle.one_update.specs.OneDrafts.{reached, AreTargets}
use Rattle.one_update.proofs.PhaseLaws.{has_graph}
use Rattle.one_update.proofs.Unreached.{HaveBlocks, merged_whole, reached_listed, search_light}
use Rattle.one_update.proofs.phases.merge.Goals as goal
use Rattle.label_graph.specs.GraphViews.{label_number}

pub reached_nodes-requires : goal.reached_nodes-requires
reached_nodes-requires g c =
    let are = subst (AreTargets c.args.after.now.before c.args.after.now.change) (sym (c.deref.ensures.value ∙ c.in_ok-targets.ensures)) c.requires.targets in
    record {
      live = λ t h. (and_parts (is_live (graph_after c.args.after.now) t) (altered c.args.after.now.change c.args.after.now.before t) (sym (are.members t) ∙ h)).0;
    }

pub merge-requires-clause-graph : goal.merge-requires-clause-graph
merge-requires-clause-graph g c =
    let a = graph_after c.args.after.now in
    has_graph a (shown_blocks c.args.base.now c.args.draft.now) (at (shown_labels c.args.base.now c.args.draft.now)) (shown_support c.args.base.now c.args.draft.now) c.requires.shown.supports
    c.created-known.ensures.few_edges c.requires.shown.block_labels

pub returns-in_err-nodes-clause-cost : goal.returns-in_err-nodes-clause-cost
returns-in_err-nodes-clause-cost g c =
    let are = subst (AreTargets c.args.after.now.before c.args.after.now.change) (sym (c.deref.ensures.value ∙ c.in_ok-targets.ensures)) c.requires.targets in
    search_light c.args.after.now.before c.args.after.now.change c.deref.result.now c.args.steps.now c.reached_nodes.new.steps are c.reached_nodes.ensures.cost

pub returns-in_err-add_blocks-clause-cost : goal.returns-in_err-add_blocks-clause-cost
returns-in_err-add_blocks-clause-cost g c =
    let are = subst (AreTargets c.args.after.now.before c.args.after.now.change) (sym (c.deref.ensures.value ∙ c.in_ok-targets.ensures)) c.requires.targets in
    search_light c.args.after.now.before c.args.after.now.change c.deref.result.now c.args.steps.now c.reached_nodes.new.steps are c.reached_nodes.ensures.cost

pub returns-in_err-parentless-clause-cost : goal.returns-in_err-parentless-clause-cost
returns-in_err-parentless-clause-cost g c =
    let are = subst (AreTargets c.args.after.now.before c.args.after.now.change) (sym (c.deref.ensures.value ∙ c.in_ok-targets.ensures)) c.requires.targets in
    search_light c.args.after.now.before c.args.after.now.change c.deref.result.now c.args.steps.now c.reached_nodes.new.steps are c.reached_nodes.ensures.cost

pub returns-in_err-merge-clause-cost : goal.returns-in_err-merge-clause-cost
returns-in_err-merge-clause-cost g c =
    let are = subst (AreTargets c.args.after.now.before c.args.after.now.change) (sym (c.deref.ensures.value ∙ c.in_ok-targets.ensures)) c.requires.targets in
    search_light c.args.after.now.before c.args.after.now.change c.deref.result.now c.args.steps.now c.reached_nodes.new.steps are c.reached_nodes.ensures.cost

pub returns-clause-cost : goal.returns-clause-cost
returns-clause-cost g c =
    let are = subst (AreTargets c.args.after.now.before c.args.after.now.change) (sym (c.deref.ensures.value ∙ c.in_ok-targets.ensures)) c.requires.targets in
    search_light c.args.after.now.before c.args.after.now.change c.deref.result.now c.args.steps.now c.reached_nodes.new.steps are c.reached_nodes.ensures.cost

pub returns-clause-shown : goal.returns-clause-shown
returns-clause-shown g c =
    let are = subst (AreTargets c.args.after.now.before c.args.after.now.change) (sym (c.deref.ensures.value ∙ c.in_ok-targets.ensures)) c.requires.targets in
    record {
      over = c.in_ok-merge.ensures.over;
      stable =
          let a = c.args.after.now in
          let q = c.args.base.now in
          let p = shown_blocks q c.args.draft.now in
          let nodes = c.deref-2.result.now in
          let listed = subst (Lists (reached a.before a.change)) (sym c.deref-2.ensures.value) (reached_listed a.before a.change c.deref.result.now c.in_ok-nodes.nodes.items are c.in_ok-nodes.ensures.reached) in
          let have : HaveBlocks nodes p c.add_blocks.new.blocks.items = record { there = c.in_ok-add_blocks.ensures.there } in
          (merged_whole a.before a.change q.blocks.block_of p (shown_blocks q c.merge.new.draft) (at (shown_labels q c.args.draft.now)) (shown_support q c.args.draft.now) nodes c.add_blocks.new.blocks.items
          c.created-known.ensures.after c.requires.split c.requires.shown.stable c.requires.shown.block_labels c.requires.shown.supports listed have (record { merged = c.in_ok-merge.ensures.merged })).stable;
      block_labels = c.in_ok-merge.ensures.block_labels (label_number (graph_after c.args.after.now)) c.requires.shown.block_labels;
      supports = c.in_ok-merge.ensures.supports (graph_after c.args.after.now) c.requires.shown.supports;
    }

pub returns-clause-minimal : goal.returns-clause-minimal
returns-clause-minimal g c =
    let are = subst (AreTargets c.args.after.now.before c.args.after.now.change) (sym (c.deref.ensures.value ∙ c.in_ok-targets.ensures)) c.requires.targets in
    let a = c.args.after.now in
    let q = c.args.base.now in
    let p = shown_blocks q c.args.draft.now in
    let nodes = c.deref-2.result.now in
    let listed = subst (Lists (reached a.before a.change)) (sym c.deref-2.ensures.value) (reached_listed a.before a.change c.deref.result.now c.in_ok-nodes.nodes.items are c.in_ok-nodes.ensures.reached) in
    let have : HaveBlocks nodes p c.add_blocks.new.blocks.items = record { there = c.in_ok-add_blocks.ensures.there } in
    (merged_whole a.before a.change q.blocks.block_of p (shown_blocks q c.merge.new.draft) (at (shown_labels q c.args.draft.now)) (shown_support q c.args.draft.now) nodes c.add_blocks.new.blocks.items
    c.created-known.ensures.after c.requires.split c.requires.shown.stable c.requires.shown.block_labels c.requires.shown.supports listed have (record { merged = c.in_ok-merge.ensures.merged })).minimal

pub returns-clause-same : goal.returns-clause-same
returns-clause-same g c =
    let are = subst (AreTargets c.args.after.now.before c.args.after.now.change) (sym (c.deref.ensures.value ∙ c.in_ok-targets.ensures)) c.requires.targets in
    let a = c.args.after.now in
    let q = c.args.base.now in
    let p = shown_blocks q c.args.draft.now in
    let nodes = c.deref-2.result.now in
    let listed = subst (Lists (reached a.before a.change)) (sym c.deref-2.ensures.value) (reached_listed a.before a.change c.deref.result.now c.in_ok-nodes.nodes.items are c.in_ok-nodes.ensures.reached) in
    let have : HaveBlocks nodes p c.add_blocks.new.blocks.items = record { there = c.in_ok-add_blocks.ensures.there } in
    (merged_whole a.before a.change q.blocks.block_of p (shown_blocks q c.merge.new.draft) (at (shown_labels q c.args.draft.now)) (shown_support q c.args.draft.now) nodes c.add_blocks.new.blocks.items
    c.created-known.ensures.after c.requires.split c.requires.shown.stable c.requires.shown.block_labels c.requires.shown.supports listed have (record { merged = c.in_ok-merge.ensures.merged })).same
