use Rattle.std.proofs.Common.{sym, ◌∙◌, ap, nat_eq, arith}
use Rattle.std.proofs.lemmas.List.Sorted.{list_any-IsPermutation}
use Rattle.graph_spec.specs.Members.{has}
use Rattle.one_merge.proofs.MergePairLaws.{fewer_once}
use Rattle.one_merge.proofs.merge_candidates.begin_round.Goals as goal

pub returns-clause-same : goal.returns-clause-same
returns-clause-same c = λ b.
    sym (list_any-IsPermutation (nat_eq b) c.sort_dedup.new.numbers.items c.reverse.new.self.items c.reverse.ensures.permutation) ∙ c.sort_dedup.ensures.same b ∙ ap (λ v. has v.items b) c.swap.ensures.x_after

pub returns-clause-fewer : goal.returns-clause-fewer
returns-clause-fewer c =
    let same = c.reverse.ensures.len in
    let few = fewer_once c.sort_dedup.new.numbers.items c.args.next.now.items c.sort_dedup.ensures.once (λ b. c.sort_dedup.ensures.same b ∙ ap (λ v. has v.items b) c.swap.ensures.x_after) in
    omega (arith, same, few)
