use Rattle.std.proofs.Common.{◌≡◌, ◌<◌, ◌||◌, [], length, ap, sym, ◌∙◌, arith}
use Rattle.graph_spec.specs.Members.{has, at, is_this}
use Rattle.px_base.specs.BitSets.{BitSet}
use Rattle.index_eval.proofs.BlockSets.{below_none, below_step, below_end}
use Rattle.index_eval.proofs.summary_answers.extents.Goals as goal

pub loop-b-init : goal.loop-b-init
loop-b-init c =
    let is : c.in_ok-set.set ≡ record { size = c.numbers.result; members = [] } = c.in_ok-set.ensures in
    let none : length c.in_ok-set.set.members ≡ 0 = ap (λ (s : BitSet). length s.members) is in
    record {
      within = omega arith;
      size = ap (λ (s : BitSet). s.size) is ∙ c.numbers.ensures.count;
      rising = λ k h. absurd (omega (arith, h, none));
      members = λ n. ap (λ (s : BitSet). has s.members n) is ∙ sym (below_none c.args.blocks.now.members (at c.args.summary.now.blocks.block_of n));
    }

pub loop-b-preserved : goal.loop-b-preserved
loop-b-preserved c =
    let blocks = c.args.blocks.now.members in
    let block = c.args.summary.now.blocks.block_of in
    let b = c.in-Some.b in
    let below : b < c.args.blocks.now.size = c.size-known.ensures.below b c.in-Some.ensures.next.member in
    record {
      within = omega arith;
      size = c.add_extent.ensures.size ∙ c.loop-b.invariant.size;
      rising = c.add_extent.ensures.rising;
      members = λ n.
          c.add_extent.ensures.members n ∙ ap (λ t. is_this b (at block n) || t) (c.loop-b.invariant.members n)
          ∙ sym (below_step blocks c.loop-b.from b c.in-Some.ensures.next (at block n));
    }

pub returns-clause-members : goal.returns-clause-members
returns-clause-members c n =
    c.loop-b.invariant.members n ∙ below_end c.args.blocks.now.members c.loop-b.from c.in_default.ensures.next (at c.args.summary.now.blocks.block_of n)
