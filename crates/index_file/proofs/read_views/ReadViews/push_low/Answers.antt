use Rattle.std.proofs.Common.{◌≡◌, ◌+◌, ◌-◌, ◌++◌, ◌∷◌, [], suc, length, ap, sym, subst, ◌∙◌, arith}
use Rattle.std.specs.Prelude.{IsSome, nat_eq, if◌then◌else◌}
use Rattle.index_file.specs.Readings.{RankedView, next_rank, with_rank}
use Rattle.index_file.specs.ReadViews.{last_ranks}
use Rattle.index_file.proofs.ReadViewLaws.{some_view, rank_taken, rank_low, last_more, next_more, next_few}
use Rattle.index_file.proofs.read_views.ReadViews.push_low.Goals as goal

pub overflow_sub-last : goal.overflow_sub-last
overflow_sub-last c = (let some = some_view c.args.self.now c.args.rank c.requires.lawful in let len = c.len-last.ensures in omega (arith, some, len))

pub index_mut-requires : goal.index_mut-requires
index_mut-requires c =
    let some = some_view c.args.self.now c.args.rank c.requires.lawful in
    let len = c.len-last.ensures in
    let same = ap length c.self.view_is in
    omega (arith, some, len, same)

pub next_after-self-inside-requires : goal.next_after-self-inside-requires
next_after-self-inside-requires c =
    let is = c.self.invariant in
    let most = next_few 0 (last_ranks c.self.inside.list.items) in
    let few = c.requires.few in
    let same = ap (λ vs. length (last_ranks vs)) c.self.view_is in
    omega (arith, is, most, few, same)

pub returns-clause-ok : goal.returns-clause-ok
returns-clause-ok c =
    let views = c.self.inside.list.items in
    let r = c.args.rank in
    let lawful = subst (λ vs. IsSome (with_rank vs r)) (sym c.self.view_is) c.requires.lawful in
    let end : c.len-last.result - 1 + 1 ≡ length views =
    (let some = some_view views r lawful in let len = c.len-last.ensures ∙ sym (ap length c.self.view_is) in omega (arith, some, len)) in
    let more = c.in_ok-push.ensures.ok ∙ ap (λ (v : RankedView). record v { ranks = v.ranks ++ r ∷ [] }) c.index_mut.ensures.value in
    ap (λ vs. with_rank vs r) (sym c.self.view_is) ∙ rank_taken views c.push.new.self c.index_mut.result.now (c.len-last.result - 1) r end more (rank_low views r lawful)

pub invariant_of-self-2 : goal.invariant_of-self-2
invariant_of-self-2 c =
    let views = c.self.inside.list.items in
    let r = c.args.rank in
    let lawful = subst (λ vs. IsSome (with_rank vs r)) (sym c.self.view_is) c.requires.lawful in
    let end : c.len-last.result - 1 + 1 ≡ length views =
    (let some = some_view views r lawful in let len = c.len-last.ensures ∙ sym (ap length c.self.view_is) in omega (arith, some, len)) in
    let more = c.in_ok-push.ensures.ok ∙ ap (λ (v : RankedView). record v { ranks = v.ranks ++ r ∷ [] }) c.index_mut.ensures.value in
    c.next_after-self-inside.ensures
    ∙ ap (λ n. if nat_eq r n then suc n else n) c.self.invariant
    ∙ sym (next_more 0 (last_ranks views) r)
    ∙ sym (ap (next_rank 0) (last_more views c.push.new.self c.index_mut.result.now (c.len-last.result - 1) r end more))
