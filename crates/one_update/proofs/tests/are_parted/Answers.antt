use Rattle.graph_spec.specs.Members.{at, has}
use Rattle.std.proofs.Common.{[], ◌∷◌, List, ℕ, sym, subst}
use Rattle.one_update.specs.OneDrafts.{AreTargets, ShowsStableBut}
use Rattle.label_graph.specs.GraphViews.{label_number}
use Rattle.graph_update.specs.PendingChanges.{graph_after}
use Rattle.quotient_draft.specs.Drafts.{shown_blocks, shown_labels}
use Rattle.one_update.proofs.PendingChanges.{link_targets, link_unsteady}
use Rattle.one_update.proofs.PhaseLaws.{labels_but_found, stable_there}
use Rattle.one_update.proofs.tests.are_parted.Goals as goal

pub split-requires-clause-shown : goal.split-requires-clause-shown
split-requires-clause-shown g c =
    subst (λ (l : List ℕ). ShowsStableBut (graph_after c.args.after.now) l c.args.base.now c.draft_link.new.draft) (sym c.in_ok-targets.ensures)
    (let changed = c.in_ok-draft_link.ensures.changed in
    record {
      over = changed.over;
      stable =
          stable_there c.args.after.now.before c.args.after.now.change (c.args.edge.1 ∷ []) c.args.base.now c.draft_link.new.draft c.requires.before.graph c.requires.before.graph_after
          c.requires.before.fits (link_unsteady c.args.after.now c.args.base.now c.args.edge.0 c.args.edge.1 c.requires.before c.requires.links) changed;
      block_labels =
          labels_but_found c.args.after.now.before c.args.after.now.change (c.args.edge.1 ∷ []) c.args.base.now c.draft_link.new.draft
          (link_unsteady c.args.after.now c.args.base.now c.args.edge.0 c.args.edge.1 c.requires.before c.requires.links) changed;
      supports = changed.supports;
    })

pub merge-requires-clause-split : goal.merge-requires-clause-split
merge-requires-clause-split g c =
    c.in_ok-split.ensures.split
    (record { stable = c.requires.before.fits.index.stable; minimal = c.requires.before.fits.index.minimal; keeps = c.in_ok-draft_link.ensures.changed.keeps })

pub split-requires-clause-targets : goal.split-requires-clause-targets
split-requires-clause-targets g c = subst (AreTargets c.args.after.now.before c.args.after.now.change) (sym c.in_ok-targets.ensures) (link_targets c.args.after.now c.args.base.now c.args.edge.0 c.args.edge.1 c.requires.before c.requires.links)

pub merge-requires-clause-targets : goal.merge-requires-clause-targets
merge-requires-clause-targets g c = subst (AreTargets c.args.after.now.before c.args.after.now.change) (sym c.in_ok-targets.ensures) (link_targets c.args.after.now c.args.base.now c.args.edge.0 c.args.edge.1 c.requires.before c.requires.links)
