use Rattle.std.proofs.Common.{◌≡◌, Some, length, ap, sym, subst, ◌∙◌, arith}
use Rattle.std.specs.Prelude.{OnOk}
use Rattle.std.proofs.lemmas.Bool.{lt-leb}
use Rattle.index_file.specs.Readings.{next_rank, with_rank}
use Rattle.index_file.specs.ReadViews.{last_ranks}
use Rattle.index_file.proofs.ReadViewLaws.{none_there, rank_there, rank_refused, next_few}
use Rattle.index_file.proofs.read_views.ReadViews.push_rank.Goals as goal

pub returns-then-len-eq0-clause-wrong : goal.returns-then-len-eq0-clause-wrong
returns-then-len-eq0-clause-wrong c = λ _. none_there c.args.self.now c.args.rank (sym c.len.ensures ∙ c.if-len-eq0.true)

pub low_rank-requires : goal.low_rank-requires
low_rank-requires c =
    let is = c.self.invariant in
    let most = next_few 0 (last_ranks c.self.inside.list.items) in
    let few = c.requires.few in
    let same = ap (λ vs. length (last_ranks vs)) c.self.view_is in
    omega (arith, is, most, few, same)

pub push_low-requires-clause-lawful : goal.push_low-requires-clause-lawful
push_low-requires-clause-lawful c =
    let found = c.in-Some.ensures.found in
    let is = c.self.invariant ∙ ap (λ vs. next_rank 0 (last_ranks vs)) c.self.view_is in
    rank_there c.args.self.now c.in-Some.low (let some = c.if-len-eq0.false in let len = c.len.ensures in omega (arith, some, len))
    (let e = found.0 in let low = found.1 in omega (arith, e, low, is))

pub returns-in-Some-clause-ok : goal.returns-in-Some-clause-ok
returns-in-Some-clause-ok c = subst (λ r. OnOk c.push_low.result (with_rank c.args.self.now r ≡ Some c.push_low.new.self)) c.in-Some.ensures.found.0 c.push_low.ensures.ok

pub returns-in-None-clause-wrong : goal.returns-in-None-clause-wrong
returns-in-None-clause-wrong c = λ _.
    let is = c.self.invariant ∙ ap (λ vs. next_rank 0 (last_ranks vs)) c.self.view_is in
    let above = c.in-None.ensures.none in
    rank_refused c.args.self.now c.args.rank (lt-leb c.args.rank (next_rank 0 (last_ranks c.args.self.now)) (omega (arith, is, above)))

pub returns-in-Some-clause-wrong : goal.returns-in-Some-clause-wrong
returns-in-Some-clause-wrong c = λ h. absurd (c.push_low.ensures.wrong h)
