use Rattle.std.proofs.Common.{◌≡◌, ◌<◌, ◌&&◌, ◌||◌, [], length, ap, sym, ◌∙◌, arith}
use Rattle.std.specs.Prelude.{nat_eq}
use Rattle.graph_spec.specs.Members.{has}
use Rattle.px_base.specs.BitSets.{BitSet}
use Rattle.data_validate.proofs.RisingTests.{kept_none, kept_step, kept_end}
use Rattle.data_validate.proofs.checks.common.Goals as goal

pub loop-n-init : goal.loop-n-init
loop-n-init c =
    let is : c.in_ok-both.both ≡ record { size = c.size.result; members = [] } = c.in_ok-both.ensures in
    let none : length c.in_ok-both.both.members ≡ 0 = ap (λ (s : BitSet). length s.members) is in
    record {
      within = omega arith;
      size = ap (λ (s : BitSet). s.size) is ∙ c.size.ensures.size;
      rising = λ k h. absurd (omega (arith, h, none));
      members = λ m. ap (λ (s : BitSet). has s.members m) is ∙ sym (kept_none c.args.set.now.members (has c.args.other.now.members) m);
    }

pub loop-n-preserved : goal.loop-n-preserved
loop-n-preserved c =
    let set = c.args.set.now.members in
    let other = c.args.other.now.members in
    let n = c.in-Some.n in
    let below : n < c.args.set.now.size = c.size.ensures.below n c.in-Some.ensures.next.member in
    record {
      within = omega arith;
      size = c.insert_if.ensures.size ∙ c.loop-n.invariant.size;
      rising = c.insert_if.ensures.rising;
      members = λ m.
          c.insert_if.ensures.members m ∙ ap (λ t. (nat_eq m n && t) || has c.loop-n.both.members m) c.contains.ensures
          ∙ ap (λ t. (nat_eq m n && has other n) || t) (c.loop-n.invariant.members m) ∙ kept_step set (has other) c.loop-n.from n c.in-Some.ensures.next m;
    }

pub returns-clause-members : goal.returns-clause-members
returns-clause-members c m = c.loop-n.invariant.members m ∙ kept_end c.args.set.now.members (has c.args.other.now.members) c.loop-n.from c.in_default.ensures.next m
