use Rattle.std.proofs.Common.{◌≡◌, ◌<◌, ◌++◌, ◌∷◌, [], ℕ, Option, length, IsSome, arith, sym, ap, subst, ◌∙◌, length-append}
use Rattle.graph_spec.specs.Members.{at}
use Rattle.quotient_draft.specs.Drafts.{shown_blocks, shown_labels}
use Rattle.one_split.specs.NodeTargetBlocks.{BeginsAt, StaysIf, GoesIf, AreGroupTargetBlocks, TargetBlocksExist, AreAdded, TargetBlocksHaveLabels}
use Rattle.one_split.proofs.Chosen.{AreNoted}
use Rattle.one_split.proofs.ChosenTargetBlocks.{IsChosen, choose_step, begins_long, begins_own}
use Rattle.one_split.proofs.BlockLabels.{some_kept, labels_more}
use Rattle.one_split.proofs.Present.{live_kept}
use Rattle.one_split.proofs.target_blocks.find_target_blocks.Goals as goal

pub own_number-own-requires : goal.own_number-own-requires
own_number-own-requires c =
    let below : c.loop-k.k < length c.args.keys.now = omega arith in
    let own = c.requires.keys c.loop-k.k below in
    begins_long c.args.keys.now c.loop-k.k own.0 c.key.result.now own.1 c.key.ensures

pub find_target_block-requires-clause-live : goal.find_target_block-requires-clause-live
find_target_block-requires-clause-live c =
    live_kept (shown_blocks c.args.base.now c.args.draft.now) (shown_blocks c.args.base.now c.loop-k.draft) (at (shown_labels c.args.base.now c.args.draft.now)) (at (shown_labels c.args.base.now c.loop-k.draft))
    c.requires.live c.loop-k.invariant.kept c.loop-k.invariant.stay

pub find_target_block-requires-clause-block : goal.find_target_block-requires-clause-block
find_target_block-requires-clause-block c =
    let below : c.loop-k.k < length c.args.keys.now = omega arith in
    let own = c.requires.keys c.loop-k.k below in
    let is = begins_own c.args.keys.now c.loop-k.k own.0 c.own_number-own.result c.key.result.now own.1 c.key.ensures c.own_number-own.ensures in
    subst (λ x. IsSome (at (shown_labels c.args.base.now c.loop-k.draft) x)) (sym is)
    (some_kept (at (shown_labels c.args.base.now c.args.draft.now)) (at (shown_labels c.args.base.now c.loop-k.draft)) own.0 c.loop-k.invariant.kept own.2)

pub loop-k-preserved : goal.loop-k-preserved
loop-k-preserved c =
    let p = shown_blocks c.args.base.now c.args.draft.now in
    let keys = c.args.keys.now in
    let counts = c.args.counts.now.entries in
    let labels0 : ℕ → Option ℕ = at (shown_labels c.args.base.now c.args.draft.now) in
    let labels : ℕ → Option ℕ = at (shown_labels c.args.base.now c.loop-k.draft) in
    let labels2 : ℕ → Option ℕ = at (shown_labels c.args.base.now c.find_target_block.new.draft) in
    let inv = c.loop-k.invariant in
    let ok = c.in_ok-target_block.ensures in
    let own_is = c.own_number-own.result in
    let below : c.loop-k.k < length c.args.keys.now = omega arith in
    let own = c.requires.keys c.loop-k.k below in
    let is = begins_own keys c.loop-k.k own.0 own_is c.key.result.now own.1 c.key.ensures c.own_number-own.ensures in
    let ends : BeginsAt keys (length c.loop-k.target_blocks.items) own_is =
    subst (λ j. BeginsAt keys j own_is) (sym inv.count) (subst (BeginsAt keys c.loop-k.k) (sym is) own.1) in
    let chosen : IsChosen p counts keys labels c.loop-k.target_blocks.items c.loop-k.stays.keys c.args.new_blocks.now.items c.loop-k.new_blocks.items =
    record { going = inv.going; noted = inv.noted; blocks = inv.blocks; distinct = inv.new_blocks; from = inv.from } in
    let next = choose_step p counts keys labels labels2 c.loop-k.target_blocks.items
    own_is c.loop-k.stays.keys c.find_target_block.new.stays.keys c.args.new_blocks.now.items c.loop-k.new_blocks.items c.find_target_block.new.new_blocks.items c.in_ok-target_block.target_block
    (subst (λ q. StaysIf q counts own_is c.loop-k.stays.keys c.find_target_block.new.stays.keys c.in_ok-target_block.target_block) inv.stay ok.stays)
    (subst (λ q. GoesIf q labels labels2 counts own_is c.loop-k.stays.keys c.find_target_block.new.stays.keys c.in_ok-target_block.target_block) inv.stay ok.goes)
    (λ x h. some_kept labels labels2 x ok.kept h) ok.new_blocks ends chosen in
    let added : c.push.new.self.items ≡ c.loop-k.target_blocks.items ++ c.in_ok-target_block.target_block ∷ [] = c.in_ok-push.ensures.items in
    let long = length-append c.loop-k.target_blocks.items (c.in_ok-target_block.target_block ∷ []) in
    let longer = ap length added in
    let count = inv.count in
    record {
      over = ok.over;
      stay = ok.stay ∙ inv.stay;
      supports = λ x y. ok.supports x y ∙ inv.supports x y;
      count = omega (arith, long, longer, count);
      going = subst (AreGroupTargetBlocks p counts keys) (sym added) next.going;
      noted = subst (λ gs. AreNoted keys gs c.find_target_block.new.stays.keys) (sym added) next.noted;
      blocks = subst (λ gs. TargetBlocksExist gs labels2) (sym added) next.blocks;
      kept = record { kept = λ x d h. ok.kept.kept x d (inv.kept.kept x d h) };
      labels = subst (λ gs. TargetBlocksHaveLabels keys gs labels0 labels2) (sym added)
          (labels_more keys c.loop-k.target_blocks.items c.in_ok-target_block.target_block labels0 labels labels2 own_is inv.labels inv.kept ok.kept ok.label ends);
      new_blocks = next.distinct;
      from = subst (λ gs. AreAdded gs c.args.new_blocks.now.items c.find_target_block.new.new_blocks.items) (sym added) next.from;
    }

pub returns-clause-extends : goal.returns-clause-extends
returns-clause-extends c =
    let inv = c.loop-k.invariant in
    record { over = inv.over; stay = inv.stay; supports = inv.supports; kept = inv.kept }
