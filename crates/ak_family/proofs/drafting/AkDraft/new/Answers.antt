use Rattle.std.proofs.Common.{◌≡◌, ◌∙◌, ◌+◌, sym, length, arith}
use Rattle.ak_family.proofs.Drafted.{empty_over, none_next}
use Rattle.ak_family.proofs.drafting.AkDraft.new.Goals as goal

pub loop-preserved : goal.loop-preserved
loop-preserved c =
    none_next c.loop.counter c.loop.levels.items c.push.new.self.items c.in_ok-new.field-0 c.loop.invariant c.in_ok-new.ensures.empty c.in_ok-push.ensures.items

pub returns-clause-over : goal.returns-clause-over
returns-clause-over c =
    let most = c.loop.auto.counter-end in
    let end = c.loop-test.false in
    let count = c.loop.invariant.count in
    let len : length c.loop.levels.items ≡ c.args.k + 1 = omega (arith, most, end, count) in
    λ f keyed same. empty_over f c.loop.levels.items keyed (same ∙ sym len) c.loop.invariant.empty
