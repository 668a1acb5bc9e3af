use Rattle.std.proofs.Common.{◌∙◌, ap, sym, length, List, arith}
use Rattle.keyed_quotient.specs.Changes.{KeyedChanges}
use Rattle.ak_family.proofs.Drafted.{empty_over, cleared_all}
use Rattle.ak_family.proofs.drafting.AkDraft.clear.Goals as goal

pub returns-clause-over : goal.returns-clause-over
returns-clause-over c =
    let end = c.loop-i-test.false in
    let len = c.len-i-end.ensures in
    let count = c.loop-i.invariant.count in
    let seen = ap (λ (d : List KeyedChanges). length d) c.self.view_is in
    λ f keyed same. empty_over f c.loop-i.self-inside.levels.items keyed (same ∙ sym count)
    (cleared_all c.args.self.now c.loop-i.self-inside.levels.items c.loop-i.i c.loop-i.invariant (omega (arith, end, len, count, seen)))
