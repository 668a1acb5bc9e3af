use Rattle.std.proofs.Common.{◌≡◌, ℕ, Vec, Global, arith, sym, subst, ◌∙◌}
use Rattle.std.proofs.lemmas.Result.{IfOk-weaker}
use Rattle.std.specs.Prelude.{nat_eq}
use Rattle.std.specs.List.{IsDistinct, filter}
use Rattle.quotient_draft.specs.Drafts.{shown_blocks}
use Rattle.one_split.specs.SplitCosts.{round_cost}
use Rattle.one_split.specs.Counted.{shares_block}
use Rattle.one_split.specs.RoundStates.{IsRound}
use Rattle.one_split.proofs.SharedBlockLaws.{kept_there, kept_sum, round_kept}
use Rattle.one_split.proofs.Present.{filter_once}
use Rattle.one_split.proofs.rounds.round.Goals as goal

pub in_shared_blocks-requires-clause-blocks : goal.in_shared_blocks-requires-clause-blocks
in_shared_blocks-requires-clause-blocks g c = λ n h. c.requires.partition.live n (c.requires.there n h)

pub part_by_keys-requires : goal.part_by_keys-requires
part_by_keys-requires g c =
    let p = shown_blocks c.args.base.now c.args.draft.now in
    let is : c.deref.result.now ≡ filter (shares_block p) c.args.nodes.now = c.deref.ensures ∙ c.in_ok-kept.ensures in
    record {
      over = c.requires.over;
      live = c.requires.live;
      there = λ n h. c.requires.there n (kept_there p c.args.nodes.now c.deref.result.now n is h);
      shape = c.requires.shape;
      partition = c.requires.partition;
      once = subst (IsDistinct nat_eq) (sym is) (filter_once (shares_block p) c.args.nodes.now c.requires.once);
      blocks = c.requires.blocks;
      supports = c.requires.supports;
    }

pub returns-clause-round : goal.returns-clause-round
returns-clause-round g c =
    let p = shown_blocks c.args.base.now c.args.draft.now in
    let is : c.deref.result.now ≡ filter (shares_block p) c.args.nodes.now = c.deref.ensures ∙ c.in_ok-kept.ensures in
    IfOk-weaker c.part_by_keys.result
    (λ (next : Vec ℕ Global). IsRound c.args.after.now c.args.base.now c.args.draft.now c.part_by_keys.new.draft c.deref.result.now c.args.new_blocks.now.items c.part_by_keys.new.new_blocks.items next.items)
    _
    (λ next r. round_kept c.args.after.now c.args.base.now c.args.draft.now c.part_by_keys.new.draft c.args.nodes.now c.deref.result.now c.args.new_blocks.now.items c.part_by_keys.new.new_blocks.items next.items c.requires.shape is r)
    c.part_by_keys.ensures.round

pub returns-clause-cost : goal.returns-clause-cost
returns-clause-cost g c =
    let p = shown_blocks c.args.base.now c.args.draft.now in
    let is : c.deref.result.now ≡ filter (shares_block p) c.args.nodes.now = c.deref.ensures ∙ c.in_ok-kept.ensures in
    let fewer = kept_sum (round_cost c.args.after.now) (shares_block p) c.args.nodes.now c.deref.result.now is in
    let cost = c.part_by_keys.ensures.cost in
    omega (arith, fewer, cost)
