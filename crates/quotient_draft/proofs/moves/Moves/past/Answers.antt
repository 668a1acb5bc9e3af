use Rattle.std.proofs.Common.{◌<◌, ◌^◌, ◌∙◌, ℕ, Option, Some, arith, sym, ap}
use Rattle.std.specs.Prelude.{nat_eq}
use Rattle.std.specs.Map.{lookup}
use Rattle.quotient_draft.specs.MoveTables.{KeptMoves}
use Rattle.quotient_draft.proofs.AppliedDrafts.{before_none, before_next, before_all, for_block}
use Rattle.quotient_draft.proofs.moves.Moves.past.Goals as goal

pub loop-i-init : goal.loop-i-init
loop-i-init c = record {
  from = omega arith;
  few = c.requires.few;
  before = before_none c.self.inside.moves.entries c.args.numbers;
}

pub end_with-end-requires-clause-small : goal.end_with-end-requires-clause-small
end_with-end-requires-clause-small c =
    let looked = ap (λ (k : KeptMoves). lookup (nat_eq c.in-Some.n.now) k.moves) (sym c.self.view_is) ∙ c.in-Some.ensures.value in
    for_block c.in-Some.b.now (c.in-Some.n.now < 2 ^ 31) (λ b e. c.requires.numbers c.in-Some.n.now b (looked ∙ ap (λ (v : Option ℕ). Some v) e))

pub loop-i-preserved : goal.loop-i-preserved
loop-i-preserved c =
    let inv = c.loop-i.invariant in
    let from = inv.from in
    let more = c.end_with-end.ensures.more in
    record {
      from = omega (arith, from, more);
      few = c.end_with-end.ensures.few;
      before = before_next c.self.inside.moves.entries c.loop-i.i c.in-Some.n.now c.loop-i.end c.end_with-end.result c.in-Some.b.now (sym c.in-Some.ensures.entry) more c.end_with-end.ensures.past inv.before;
    }

pub returns-clause-fits : goal.returns-clause-fits
returns-clause-fits c = λ n b e.
    let inv = c.loop-i.invariant in
    let from = inv.from in
    let low = c.loop-i-test.false in
    let len = c.len-i-end.ensures.len in
    let below = before_all c.self.inside.moves.entries c.loop-i.i c.loop-i.end (omega (arith, low, len)) inv.before n b (ap (λ (k : KeptMoves). lookup (nat_eq n) k.moves) c.self.view_is ∙ e) in
    omega (arith, below, from)
