use Rattle.std.proofs.Common.{◌≡◌, ◌≤◌, ◌^◌, ℕ, List, length, sym, ◌∙◌, ap, subst, arith}
use Rattle.graph_spec.specs.Members.{has}
use Rattle.graph_update.specs.PendingChanges.{Pending, graph_after}
use Rattle.graph_effects.proofs.EffectEnds.{ends_are}
use Rattle.level_update.specs.FamilyDrafts.{ShownFit}
use Rattle.level_update.proofs.EffectTargets.{levels_before, keyed_before, effects_moved, change_steps, change_start}
use Rattle.level_update.proofs.MovedDrafts.{shown_fit, shows_family, shows_keys}
use Rattle.level_update.proofs.drafting.draft_change.Goals as goal

pub draft_effects-requires-clause-before : goal.draft_effects-requires-clause-before
draft_effects-requires-clause-before g c =
    let count = c.k-known.ensures.count in
    levels_before c.args.sides c.new-after.result (record { before = c.args.graph.now.graph; change = c.args.change.now }) c.args.family.now c.new-after.ensures.pending c.new-after.ensures.before
    c.new-after.ensures.after c.requires.fits c.k-known.ensures.keyed c.requires.supported (omega (arith, count)) c.created-known-2.ensures.few_edges
    (subst (λ m. m ≤ 2 ^ 30) c.created-known.ensures.count c.created-known.ensures.few)

pub draft_effects-requires-clause-keyed : goal.draft_effects-requires-clause-keyed
draft_effects-requires-clause-keyed g c =
    keyed_before c.args.sides c.new-after.result (record { before = c.args.graph.now.graph; change = c.args.change.now }) c.args.family.now c.new-after.ensures.pending c.new-after.ensures.before
    c.requires.fits c.k-known.ensures.keyed c.requires.supported

pub draft_effects-requires-clause-ends : goal.draft_effects-requires-clause-ends
draft_effects-requires-clause-ends g c = c.deref.ensures ∙ c.in_ok-ends.ensures

pub returns-in_err-effects-clause-cost : goal.returns-in_err-effects-clause-cost
returns-in_err-effects-clause-cost g c = λ k e.
    change_start c.args.sides c.new-after.result (record { before = c.args.graph.now.graph; change = c.args.change.now }) k c.args.steps.now c.of.new.steps c.new-after.ensures.pending
    c.new-after.ensures.after c.of.ensures.cost

pub returns-in_err-ends-clause-cost : goal.returns-in_err-ends-clause-cost
returns-in_err-ends-clause-cost g c = λ k e.
    change_start c.args.sides c.new-after.result (record { before = c.args.graph.now.graph; change = c.args.change.now }) k c.args.steps.now c.of.new.steps c.new-after.ensures.pending
    c.new-after.ensures.after c.of.ensures.cost

pub returns-in_err-draft_effects-clause-cost : goal.returns-in_err-draft_effects-clause-cost
returns-in_err-draft_effects-clause-cost g c = λ k e.
    let a = c.new-after.result in
    change_steps c.args.sides a (record { before = c.args.graph.now.graph; change = c.args.change.now }) c.deref.result.now k c.args.steps.now c.of.new.steps c.draft_effects.new.steps
    c.new-after.ensures.pending c.new-after.ensures.after
    (λ n h. ends_are c.args.sides a.change a.before c.in_ok-effects.effects n c.in_ok-effects.ensures.effects c.in_ok-effects.ensures.targets c.in_ok-effects.ensures.ends
    (ap (λ (xs : List ℕ). has xs n) (sym (c.deref.ensures ∙ c.in_ok-ends.ensures)) ∙ h))
    c.of.ensures.cost (c.draft_effects.ensures.cost k e)

pub returns-clause-shows : goal.returns-clause-shows
returns-clause-shows g c =
    let a = c.new-after.result in
    let count = c.k-known.ensures.count in
    let before = levels_before c.args.sides a (record { before = c.args.graph.now.graph; change = c.args.change.now }) c.args.family.now c.new-after.ensures.pending c.new-after.ensures.before
    c.new-after.ensures.after c.requires.fits c.k-known.ensures.keyed c.requires.supported (omega (arith, count)) c.created-known-2.ensures.few_edges
    (subst (λ m. m ≤ 2 ^ 30) c.created-known.ensures.count c.created-known.ensures.few)
    in
    let keyed = keyed_before c.args.sides a (record { before = c.args.graph.now.graph; change = c.args.change.now }) c.args.family.now c.new-after.ensures.pending c.new-after.ensures.before
    c.requires.fits c.k-known.ensures.keyed c.requires.supported in
    shows_family c.args.sides (has c.deref.result.now) a.before (graph_after a) c.args.family.now c.draft_effects.new.draft
    (effects_moved c.args.sides a.before (graph_after a) c.in_ok-effects.effects c.deref.result.now c.args.family.now c.draft_effects.new.draft c.in_ok-effects.ensures.effects
    (c.deref.ensures ∙ c.in_ok-ends.ensures) before keyed c.in_ok-draft_effects.ensures.moved)

pub returns-clause-keys : goal.returns-clause-keys
returns-clause-keys g c =
    let a = c.new-after.result in
    let count = c.k-known.ensures.count in
    let before = levels_before c.args.sides a (record { before = c.args.graph.now.graph; change = c.args.change.now }) c.args.family.now c.new-after.ensures.pending c.new-after.ensures.before
    c.new-after.ensures.after c.requires.fits c.k-known.ensures.keyed c.requires.supported (omega (arith, count)) c.created-known-2.ensures.few_edges
    (subst (λ m. m ≤ 2 ^ 30) c.created-known.ensures.count c.created-known.ensures.few)
    in
    let keyed = keyed_before c.args.sides a (record { before = c.args.graph.now.graph; change = c.args.change.now }) c.args.family.now c.new-after.ensures.pending c.new-after.ensures.before
    c.requires.fits c.k-known.ensures.keyed c.requires.supported in
    shows_keys c.args.sides (has c.deref.result.now) a.before (graph_after a) c.args.family.now c.draft_effects.new.draft
    (effects_moved c.args.sides a.before (graph_after a) c.in_ok-effects.effects c.deref.result.now c.args.family.now c.draft_effects.new.draft c.in_ok-effects.ensures.effects
    (c.deref.ensures ∙ c.in_ok-ends.ensures) before keyed c.in_ok-draft_effects.ensures.moved)

pub returns-clause-fits : goal.returns-clause-fits
returns-clause-fits g c =
    let a = c.new-after.result in
    let count = c.k-known.ensures.count in
    let before = levels_before c.args.sides a (record { before = c.args.graph.now.graph; change = c.args.change.now }) c.args.family.now c.new-after.ensures.pending c.new-after.ensures.before
    c.new-after.ensures.after c.requires.fits c.k-known.ensures.keyed c.requires.supported (omega (arith, count)) c.created-known-2.ensures.few_edges
    (subst (λ m. m ≤ 2 ^ 30) c.created-known.ensures.count c.created-known.ensures.few)
    in
    let keyed = keyed_before c.args.sides a (record { before = c.args.graph.now.graph; change = c.args.change.now }) c.args.family.now c.new-after.ensures.pending c.new-after.ensures.before
    c.requires.fits c.k-known.ensures.keyed c.requires.supported in
    subst (λ (p : Pending). ShownFit c.args.sides (graph_after p) c.args.family.now c.draft_effects.new.draft) c.new-after.ensures.pending
    (shown_fit c.args.sides (has c.deref.result.now) a.before (graph_after a) c.args.family.now c.draft_effects.new.draft
    (effects_moved c.args.sides a.before (graph_after a) c.in_ok-effects.effects c.deref.result.now c.args.family.now c.draft_effects.new.draft c.in_ok-effects.ensures.effects
    (c.deref.ensures ∙ c.in_ok-ends.ensures) before keyed c.in_ok-draft_effects.ensures.moved))

pub returns-clause-cost : goal.returns-clause-cost
returns-clause-cost g c = λ k e.
    let a = c.new-after.result in
    change_steps c.args.sides a (record { before = c.args.graph.now.graph; change = c.args.change.now }) c.deref.result.now k c.args.steps.now c.of.new.steps c.draft_effects.new.steps
    c.new-after.ensures.pending c.new-after.ensures.after
    (λ n h. ends_are c.args.sides a.change a.before c.in_ok-effects.effects n c.in_ok-effects.ensures.effects c.in_ok-effects.ensures.targets c.in_ok-effects.ensures.ends
    (ap (λ (xs : List ℕ). has xs n) (sym (c.deref.ensures ∙ c.in_ok-ends.ensures)) ∙ h))
    c.of.ensures.cost (c.draft_effects.ensures.cost k e)
