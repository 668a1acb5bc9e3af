use Rattle.std.proofs.Common.{◌≡◌, ◌-◌, ◌*◌, ◌<◌, ◌⊎◌, ℕ, Option, length, arith, sym, ap, subst, ◌∙◌, refl, true, false, Bool, inl, inr, rules}
use Rattle.std.specs.Prelude.{nat_eq}
use Rattle.std.specs.List.{IsDistinct, sum_by}
use Rattle.graph_spec.specs.Members.{at, has}
use Rattle.graph_spec.specs.Shapes.{shape_of}
use Rattle.graph_spec.proofs.GraphLaws.{is_shape}
use Rattle.label_graph.specs.GraphViews.{label_number}
use Rattle.bisim_spec.specs.Weights.{size_of}
use Rattle.change_spec.specs.Costs.{cost}
use Rattle.one_spec.specs.Splits.{IsSplitInside}
use Rattle.graph_update.specs.PendingChanges.{graph_after}
use Rattle.quotient_draft.specs.Drafts.{shown_blocks, shown_labels}
use Rattle.one_split.specs.SplitCosts.{round_cost}
use Rattle.one_split.proofs.Bounds.{sound_of, moves_most}
use Rattle.one_split.proofs.Total.{closed_all, new_few, most_done, cost_more, most_within, round_within, left_falls, few_nodes, not_done}
use Rattle.one_split.proofs.Light.{target_most, light_within, cost_charged}
use Rattle.one_split.proofs.Present.{ArePresent, node_present, target_present, stable_present, block_labels_present}
use Rattle.one_split.proofs.targets.split.Goals as goal

pub part_all-requires-clause-split : goal.part_all-requires-clause-split
part_all-requires-clause-split g c =
    let s = shape_of (graph_after c.args.after.now) in
    let p = shown_blocks c.args.base.now c.args.draft.now in
    let labels : ℕ → Option ℕ = at (shown_labels c.args.base.now c.args.draft.now) in
    let node_labels = label_number (graph_after c.args.after.now) in
    let targets = has c.args.targets.now in
    let nodes = c.deref.result.now in
    let present : ArePresent p targets (has nodes) = record { each = λ n. ap (λ xs. has xs n) c.deref.ensures ∙ c.in_ok-present.ensures.those n } in
    record {
      over = c.requires.over;
      once = subst (IsDistinct nat_eq) (sym c.deref.ensures) c.in_ok-present.ensures.once;
      stable = stable_present s p targets (has nodes) present c.requires.stable;
      block_labels = block_labels_present p labels node_labels targets (has nodes) present c.requires.block_labels;
      none = c.requires.none;
      supports = c.requires.supports;
    }

pub returns-in_err-next-clause-cost : goal.returns-in_err-next-clause-cost
returns-in_err-next-clause-cost g c = λ inside closed within.
    let s = shape_of (graph_after c.args.after.now) in
    let p = shown_blocks c.args.base.now c.args.draft.now in
    let nodes = c.deref.result.now in
    let shape = is_shape (graph_after c.args.after.now) c.created-known.ensures.after in
    let present : ArePresent p (has c.args.targets.now) (has nodes) = record { each = λ n. ap (λ xs. has xs n) c.deref.ensures ∙ c.in_ok-present.ensures.those n } in
    let took = c.part_all.ensures.cost in
    let sound = sound_of c.args.after.now c.created-known.ensures.new c.created-known.ensures.before c.created-known.ensures.after in
    let light = moves_most c.args.after.now inside nodes sound (record {
      once = subst (IsDistinct nat_eq) (sym c.deref.ensures) c.in_ok-present.ensures.once;
      live = λ n h. node_present s p (has c.args.targets.now) (has nodes) n present c.requires.stable.partition h;
      within = λ n h. within n (target_present p (has c.args.targets.now) (has nodes) n present h);
    }) in
    let fit = light_within (size_of s inside) (cost c.args.after.now.change c.args.after.now.before inside) (c.part_all.new.steps - c.args.steps.now) (omega (arith, took, light)) in
    omega (arith, fit)

pub rounds-init : goal.rounds-init
rounds-init g c =
    let s = shape_of (graph_after c.args.after.now) in
    let p = shown_blocks c.args.base.now c.args.draft.now in
    let nodes = c.deref.result.now in
    let shape = is_shape (graph_after c.args.after.now) c.created-known.ensures.after in
    let present : ArePresent p (has c.args.targets.now) (has nodes) = record { each = λ n. ap (λ xs. has xs n) c.deref.ensures ∙ c.in_ok-present.ensures.those n } in
    record {
      over = c.in_ok-next.ensures.over;
      split = λ inside closed within. c.in_ok-next.ensures.split inside closed (λ n h. within n (target_present p (has c.args.targets.now) (has nodes) n present h));
      once = c.in_ok-next.ensures.once;
      block_labels = c.in_ok-next.ensures.block_labels;
      supports = c.in_ok-next.ensures.supports;
      new_blocks = c.in_ok-next.ensures.new_blocks;
      cost = λ inside closed within.
          let spent = c.in_ok-next.ensures.charged (3 * cost c.args.after.now.change c.args.after.now.before inside) (λ n h.
          target_most c.args.after.now inside n (sound_of c.args.after.now c.created-known.ensures.new c.created-known.ensures.before c.created-known.ensures.after) (node_present s p (has c.args.targets.now) (has nodes) n present c.requires.stable.partition h)
          (within n (target_present p (has c.args.targets.now) (has nodes) n present h))) in
          cost_charged (cost c.args.after.now.change c.args.after.now.before inside) (length c.part_all.new.new_blocks.items) (c.part_all.new.steps - c.args.steps.now) c.in_ok-next.next.items (omega (arith, spent));
    }

pub round-requires : goal.round-requires
round-requires g c =
    let next_is : c.deref-in-rounds-2.result.now ≡ c.rounds.next.items = c.deref-in-rounds-2.ensures.value in
    let every = c.rounds.invariant.split (λ m. true) (closed_all (shape_of (graph_after c.args.after.now))) (λ n h. refl) in
    record {
      over = c.rounds.invariant.over;
      live = search rules;
      there = λ n h. every.next_nodes n (sym (ap (λ xs. has xs n) next_is) ∙ h);
      shape = is_shape (graph_after c.args.after.now) c.created-known.ensures.after;
      partition = every.stable.partition;
      once = subst (IsDistinct nat_eq) (sym next_is) c.rounds.invariant.once;
      blocks = c.rounds.invariant.new_blocks;
      supports = c.rounds.invariant.supports;
    }

pub returns-in_err-next-2-clause-cost : goal.returns-in_err-next-2-clause-cost
returns-in_err-next-2-clause-cost g c = λ inside closed within.
    let s = shape_of (graph_after c.args.after.now) in
    let a = c.args.after.now in
    let shape = is_shape (graph_after c.args.after.now) c.created-known.ensures.after in
    let first = shown_blocks c.args.base.now c.args.draft.now in
    let p = shown_blocks c.args.base.now c.rounds.draft in
    let next = c.rounds.next.items in
    let new_blocks = c.rounds.new_blocks.items in
    let inv = c.rounds.invariant in
    let split : IsSplitInside s inside first p next new_blocks = inv.split inside closed within in
    let next_is : c.deref-in-rounds-2.result.now ≡ c.rounds.next.items = c.deref-in-rounds-2.ensures.value in
    let test : c.is_done.result ≡ false = search rules in
    let some = not_done c.is_done.result c.deref-in-rounds.result.now next c.is_done.ensures test c.deref-in-rounds.ensures.value in
    let sound = sound_of a c.created-known.ensures.new c.created-known.ensures.before c.created-known.ensures.after in
    let most = round_within a inside first p next new_blocks sound inv.once split in
    let took = c.round.ensures.cost in
    let alike = ap (sum_by (round_cost a)) next_is in
    let fit = most_within (size_of s inside) (cost a.change a.before inside) (length new_blocks) (c.rounds.steps - c.args.steps.now) (c.round.new.steps - c.args.steps.now) (sum_by (round_cost a) next) next
    (inv.cost inside closed within) some (new_few s inside first p next new_blocks shape split) most
    (omega (arith, took, alike)) in
    omega (arith, fit)

pub rounds-preserved : goal.rounds-preserved
rounds-preserved g c =
    let s = shape_of (graph_after c.args.after.now) in
    let a = c.args.after.now in
    let shape = is_shape (graph_after c.args.after.now) c.created-known.ensures.after in
    let first = shown_blocks c.args.base.now c.args.draft.now in
    let p = shown_blocks c.args.base.now c.rounds.draft in
    let next = c.rounds.next.items in
    let new_blocks = c.rounds.new_blocks.items in
    let inv = c.rounds.invariant in
    let next_is : c.deref-in-rounds-2.result.now ≡ c.rounds.next.items = c.deref-in-rounds-2.ensures.value in
    let test : c.is_done.result ≡ false = search rules in
    let some = not_done c.is_done.result c.deref-in-rounds.result.now next c.is_done.ensures test c.deref-in-rounds.ensures.value in
    let took = c.round.ensures.cost in
    let alike = ap (sum_by (round_cost a)) next_is in
    record {
      over = c.in_ok-next-2.ensures.round.over;
      split = λ inside closed within.
          c.in_ok-next-2.ensures.round.split inside first closed (subst (λ xs. IsSplitInside s inside first p xs new_blocks) (sym next_is) (inv.split inside closed within));
      once = c.in_ok-next-2.ensures.round.once;
      block_labels = c.in_ok-next-2.ensures.round.block_labels (label_number (graph_after c.args.after.now)) inv.block_labels;
      supports = c.in_ok-next-2.ensures.round.supports;
      new_blocks = c.in_ok-next-2.ensures.round.blocks;
      cost = λ inside closed within.
          let split : IsSplitInside s inside first p next new_blocks = inv.split inside closed within in
          cost_more (cost a.change a.before inside) (length new_blocks) (length c.round.new.new_blocks.items) (c.rounds.steps - c.args.steps.now) (c.round.new.steps - c.args.steps.now) (sum_by (round_cost a) next)
          next c.in_ok-next-2.next.items (inv.cost inside closed within) some
          (round_within a inside first p next new_blocks (sound_of a c.created-known.ensures.new c.created-known.ensures.before c.created-known.ensures.after) inv.once split) (omega (arith, took, alike)) c.in_ok-next-2.ensures.round.least c.in_ok-next-2.ensures.round.more;
    }

pub rounds-smaller : goal.rounds-smaller
rounds-smaller g c =
    let s = shape_of (graph_after c.args.after.now) in
    let shape = is_shape (graph_after c.args.after.now) c.created-known.ensures.after in
    let first = shown_blocks c.args.base.now c.args.draft.now in
    let p = shown_blocks c.args.base.now c.rounds.draft in
    let inv = c.rounds.invariant in
    let next_is : c.deref-in-rounds-2.result.now ≡ c.rounds.next.items = c.deref-in-rounds-2.ensures.value in
    let test : c.is_done.result ≡ false = search rules in
    let some = not_done c.is_done.result c.deref-in-rounds.result.now c.rounds.next.items c.is_done.ensures test c.deref-in-rounds.ensures.value in
    let every : ℕ → Bool = λ m. true in
    let split = c.in_ok-next-2.ensures.round.split every first (closed_all s)
    (subst (λ xs. IsSplitInside s every first p xs c.rounds.new_blocks.items) (sym next_is) (inv.split every (closed_all s) (λ n h. refl))) in
    let few = new_few s every first (shown_blocks c.args.base.now c.round.new.draft) c.in_ok-next-2.next.items c.round.new.new_blocks.items shape split in
    let nodes = few_nodes s every in
    let more : (length c.rounds.new_blocks.items < length c.round.new.new_blocks.items) ⊎ (length c.in_ok-next-2.next.items ≡ 0) =
    elim c.in_ok-next-2.ensures.round.more [ inl grew ↦ inl grew | inr none ↦ inr (ap length none) ] in
    left_falls (length (graph_after c.args.after.now).allocated) (length c.rounds.new_blocks.items) (length c.round.new.new_blocks.items) (length c.rounds.next.items) (length c.in_ok-next-2.next.items)
    (omega (arith, few, nodes)) c.in_ok-next-2.ensures.round.least some more

pub returns-clause-cost : goal.returns-clause-cost
returns-clause-cost g c = λ inside closed within.
    let s = shape_of (graph_after c.args.after.now) in
    let shape = is_shape (graph_after c.args.after.now) c.created-known.ensures.after in
    let inv = c.rounds.invariant in
    let split = inv.split inside closed within in
    let fit = most_done (size_of s inside) (cost c.args.after.now.change c.args.after.now.before inside) (length c.rounds.new_blocks.items) (c.rounds.steps - c.args.steps.now) c.rounds.next.items
    (new_few s inside (shown_blocks c.args.base.now c.args.draft.now) (shown_blocks c.args.base.now c.rounds.draft) c.rounds.next.items c.rounds.new_blocks.items shape split)
    (inv.cost inside closed within) in
    omega (arith, fit)
