use Rattle.std.proofs.Common.{◌≡◌, ◌<◌, ◌+◌, ◌∙◌, ap, suc, arith, length, get_or, set}
use Rattle.label_graph.specs.LabelTable.{exchanged}
use Rattle.label_graph.proofs.ExchangedNumbers.{replaced, replaced-next, replaced-all}
use Rattle.label_graph.proofs.numbers.exchange.Goals as goal

pub loop-i-preserved : goal.loop-i-preserved
loop-i-preserved c =
    let f = exchanged c.args.a c.args.b in
    let old = c.args.numbers.now.items in
    let i = c.loop-i.i in
    let d = c.index.result.now in
    let inv = c.loop-i.invariant in
    let value : c.other_of.result ≡ f (get_or (replaced f i old) i d) = c.other_of.ensures ∙ ap f (c.index.ensures ∙ ap (λ xs. get_or xs i d) inv) in
    let below : i < length old = omega (arith, c.loop-i-test.true, c.len-i-end.ensures) in
    let next : suc i ≡ i + 1 = omega arith in
    ap (λ xs. set xs i c.other_of.result) inv ∙ ap (set (replaced f i old) i) value ∙ replaced-next f i old d below ∙ ap (λ k. replaced f k old) next

pub returns : goal.returns
returns c =
    let f = exchanged c.args.a c.args.b in
    c.loop-i.invariant ∙ replaced-all f c.loop-i.i c.args.numbers.now.items (omega (arith, c.loop-i-test.false, c.len-i-end.ensures))
