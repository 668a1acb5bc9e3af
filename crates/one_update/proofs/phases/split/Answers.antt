use Rattle.std.proofs.Common.{◌∙◌, ℕ, List, refl, [], sym, subst}
use Rattle.one_update.specs.OneDrafts.{AreTargets, ShowsStableBut}
use Rattle.graph_spec.specs.Members.{has}
use Rattle.graph_spec.specs.Shapes.{shape_of}
use Rattle.graph_update.specs.PendingChanges.{graph_after}
use Rattle.quotient_draft.specs.Drafts.{shown_blocks}
use Rattle.one_spec.proofs.SplitRounds.{stable_at_end}
use Rattle.one_update.proofs.PhaseLaws.{reach_cost}
use Rattle.one_update.proofs.Unreached.{split_reached, split_of}
use Rattle.one_update.proofs.phases.split.Goals as goal

pub split-requires : goal.split-requires
split-requires g c =
    let are = subst (AreTargets c.args.after.now.before c.args.after.now.change) (sym (c.deref.ensures.value ∙ c.in_ok-targets.ensures)) c.requires.targets in
    let shown = subst (λ (l : List ℕ). ShowsStableBut (graph_after c.args.after.now) l c.args.base.now c.args.draft.now) (sym (c.deref.ensures.value ∙ c.in_ok-targets.ensures)) c.requires.shown in
    record {
      over = shown.over;
      once = are.once;
      stable = shown.stable;
      block_labels = shown.block_labels;
      none = c.new-new_blocks.ensures.items;
      supports = shown.supports;
    }

pub returns-in_err-split-clause-cost : goal.returns-in_err-split-clause-cost
returns-in_err-split-clause-cost g c =
    let are = subst (AreTargets c.args.after.now.before c.args.after.now.change) (sym (c.deref.ensures.value ∙ c.in_ok-targets.ensures)) c.requires.targets in
    reach_cost c.args.after.now.before c.args.after.now.change c.deref.result.now c.args.steps.now c.split.new.steps c.created-known.ensures.after
    (λ n h. sym (are.members n) ∙ h) c.split.ensures.cost

pub returns-clause-cost : goal.returns-clause-cost
returns-clause-cost g c =
    let are = subst (AreTargets c.args.after.now.before c.args.after.now.change) (sym (c.deref.ensures.value ∙ c.in_ok-targets.ensures)) c.requires.targets in
    reach_cost c.args.after.now.before c.args.after.now.change c.deref.result.now c.args.steps.now c.split.new.steps c.created-known.ensures.after
    (λ n h. sym (are.members n) ∙ h) c.split.ensures.cost

pub returns-clause-shown : goal.returns-clause-shown
returns-clause-shown g c =
    let are = subst (AreTargets c.args.after.now.before c.args.after.now.change) (sym (c.deref.ensures.value ∙ c.in_ok-targets.ensures)) c.requires.targets in
    record {
      over = c.in_ok-split.ensures.over;
      stable =
          let p2 = shown_blocks c.args.base.now c.split.new.draft in
          stable_at_end (shape_of (graph_after c.args.after.now)) p2 (has []) (λ n. refl)
          (split_reached c.args.after.now.before c.args.after.now.change c.deref.result.now (shown_blocks c.args.base.now c.args.draft.now) p2 c.split.new.new_blocks.items c.created-known.ensures.after
          are (record { split = c.in_ok-split.ensures.split })).stable;
      block_labels = c.in_ok-split.ensures.block_labels;
      supports = c.in_ok-split.ensures.supports;
    }

pub returns-clause-within : goal.returns-clause-within
returns-clause-within g c =
    let are = subst (AreTargets c.args.after.now.before c.args.after.now.change) (sym (c.deref.ensures.value ∙ c.in_ok-targets.ensures)) c.requires.targets in
    (split_reached c.args.after.now.before c.args.after.now.change c.deref.result.now (shown_blocks c.args.base.now c.args.draft.now) (shown_blocks c.args.base.now c.split.new.draft)
    c.split.new.new_blocks.items c.created-known.ensures.after are (record { split = c.in_ok-split.ensures.split })).within

pub returns-clause-same : goal.returns-clause-same
returns-clause-same g c =
    let are = subst (AreTargets c.args.after.now.before c.args.after.now.change) (sym (c.deref.ensures.value ∙ c.in_ok-targets.ensures)) c.requires.targets in
    (split_reached c.args.after.now.before c.args.after.now.change c.deref.result.now (shown_blocks c.args.base.now c.args.draft.now) (shown_blocks c.args.base.now c.split.new.draft)
    c.split.new.new_blocks.items c.created-known.ensures.after are (record { split = c.in_ok-split.ensures.split })).same

pub returns-clause-split : goal.returns-clause-split
returns-clause-split g c =
    let are = subst (AreTargets c.args.after.now.before c.args.after.now.change) (sym (c.deref.ensures.value ∙ c.in_ok-targets.ensures)) c.requires.targets in
    λ old.
    split_of c.args.after.now.before c.args.after.now.change c.args.base.now.blocks.block_of (shown_blocks c.args.base.now c.args.draft.now) (shown_blocks c.args.base.now c.split.new.draft)
    old.stable old.minimal old.keeps
    (split_reached c.args.after.now.before c.args.after.now.change c.deref.result.now (shown_blocks c.args.base.now c.args.draft.now) (shown_blocks c.args.base.now c.split.new.draft)
    c.split.new.new_blocks.items c.created-known.ensures.after are (record { split = c.in_ok-split.ensures.split })).same
