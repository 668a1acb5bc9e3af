use Rattle.std.proofs.Common.{arith, rules}
use Rattle.ak_family.proofs.LabelledMembers.{first_more, first_all}
use Rattle.ak_family.proofs.labels.own_numbers.Goals as goal

pub loop-b-preserved : goal.loop-b-preserved
loop-b-preserved c = record {
  count = search rules;
  first = rw c.in_ok-push.ensures.items (first_more _ _ _ _ _ c.loop-b.invariant.count c.loop-b.invariant.first c.key.ensures c.own_number.ensures);
}

pub returns-clause-first : goal.returns-clause-first
returns-clause-first c = first_all _ _ _ c.loop-b.invariant.first (let end = c.loop-b-test.false in let len = c.len-b-end.ensures.len in omega (arith, end, len))
