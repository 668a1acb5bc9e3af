use Rattle.std.proofs.Common.{◌≡◌, arith, sym, ◌∙◌, true≢false, subst, inl, inr}
use Rattle.std.proofs.lemmas.Bool.{cases_lt}
use Rattle.index_file.specs.FittingViews.{FitsView}
use Rattle.pathindex_run.proofs.check.first_misfit.Goals as goal

pub returns : goal.returns
returns c = λ i h.
    let end = c.loop-j-test.false in
    let count = c.views-j-end.ensures in
    c.loop-j.invariant i (omega (arith, h, end, count))

pub returns-then-not-yes : goal.returns-then-not-yes
returns-then-not-yes c = record {
  place = c.loop-j.j;
  is_there = c.via.ensures;
  before = c.loop-j.invariant;
  differs = λ f. true≢false (sym (c.in_ok-yes.ensures.1 f) ∙ c.if-not-yes.true);
}

pub loop-j-preserved : goal.loop-j-preserved
loop-j-preserved c = λ i h. elim (cases_lt i c.loop-j.j) [
  | inl before ↦ c.loop-j.invariant i before
  | inr past ↦ (let here : c.loop-j.j ≡ i = omega (arith, h, past) in subst (FitsView c.args.saved.now) here (c.in_ok-yes.ensures.0 c.if-not-yes.false))
]
