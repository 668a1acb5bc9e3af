use Rattle.std.proofs.Common.{◌≡◌, arith, inl, inr, refl, subst, sym, ◌∙◌, true≢false}
use Rattle.std.proofs.lemmas.Bool.{cases_lt}
use Rattle.graph_spec.specs.Members.{at}
use Rattle.bisim_spec.proofs.Bisimilar.{is_some_at}
use Rattle.index_check.specs.OuterParents.{HasWholeKey}
use Rattle.index_check.proofs.outer.lacks_whole_keys.Goals as goal

pub returns : goal.returns
returns g c = (
  λ _. λ n w.
      let below = g.met.G.Digraph.below c.args.g.now n (c.requires.own n (is_some_at (at c.args.own.now n) w.is.number w.is.own_is)) in
      let end = c.loop-n-test.false in
      let size = c.size-n-end.ensures in
      c.loop-n.invariant n (omega (arith, below, end, size)) w,
  λ _. refl,
)

pub returns-then-has : goal.returns-then-has
returns-then-has g c = (
  λ h. absurd (true≢false (sym h)),
  λ lacks. absurd (lacks c.loop-n.n (c.in_ok-has.ensures.0 c.if-has.true)),
)

pub loop-n-preserved : goal.loop-n-preserved
loop-n-preserved g c = λ n h. elim (cases_lt n c.loop-n.n) [
  | inl before ↦ c.loop-n.invariant n before
  | inr past ↦ λ w.
      let here : n ≡ c.loop-n.n = omega (arith, h, past) in
      let has = c.in_ok-has.ensures.1 (subst (HasWholeKey (at c.args.own.now) c.args.block.now (g.G.Digraph.edge c.args.g.now) c.args.keys.now) here w) in
      true≢false (sym has ∙ c.if-has.false)
]
