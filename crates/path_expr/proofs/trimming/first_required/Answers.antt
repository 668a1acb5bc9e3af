use Rattle.std.proofs.Common.{◌≡◌, ◌<◌, suc, ◌+◌, length, sym, ap, ◌∙◌, arith}
use Rattle.path_spec.specs.Trimmed.{from_required}
use Rattle.path_expr.specs.ExprTrees.{item_of, seq_of}
use Rattle.path_expr.specs.TreeParts.{separators, without_first}
use Rattle.path_expr.proofs.PartLists.{separators_len}
use Rattle.path_expr.proofs.TrimmedPrefixes.{reading_past, required_here, required_last}
use Rattle.path_expr.proofs.trimming.first_required.Goals as goal

pub item_at-requires : goal.item_at-requires
item_at-requires c = let n = separators_len (item_of c.args.seq.now.first) c.args.seq.now.rest.items in omega (arith, n)

pub returns-then-not-item_is_nullable-clause-inside : goal.returns-then-not-item_is_nullable-clause-inside
returns-then-not-item_is_nullable-clause-inside c = let n = separators_len (item_of c.args.seq.now.first) c.args.seq.now.rest.items in omega (arith, n)

pub returns-then-not-item_is_nullable-clause-required : goal.returns-then-not-item_is_nullable-clause-required
returns-then-not-item_is_nullable-clause-required c =
    c.loop-number.invariant
    ∙ required_here (seq_of c.args.seq.now) c.loop-number.number (item_of c.item_at.result.now) c.item_at.ensures (sym c.item_is_nullable.ensures ∙ c.if-not-item_is_nullable.true)

pub loop-number-preserved : goal.loop-number-preserved
loop-number-preserved c =
    let n = separators_len (item_of c.args.seq.now.first) c.args.seq.now.rest.items in
    let within : c.loop-number.number < length (separators (seq_of c.args.seq.now)) = omega (arith, n) in
    let more : suc c.loop-number.number ≡ c.loop-number.number + 1 = omega arith in
    c.loop-number.invariant
    ∙ reading_past (seq_of c.args.seq.now) c.loop-number.number (item_of c.item_at.result.now) c.item_at.ensures within (sym c.item_is_nullable.ensures ∙ c.if-not-item_is_nullable.false)
    ∙ ap (λ k. from_required (without_first k (seq_of c.args.seq.now))) more

pub returns-clause-inside : goal.returns-clause-inside
returns-clause-inside c = let n = separators_len (item_of c.args.seq.now.first) c.args.seq.now.rest.items in omega (arith, n)

pub returns-clause-required : goal.returns-clause-required
returns-clause-required c =
    let n = separators_len (item_of c.args.seq.now.first) c.args.seq.now.rest.items in
    let same : c.loop-number.number ≡ c.len.result = omega arith in
    c.loop-number.invariant
    ∙ ap (λ k. from_required (without_first k (seq_of c.args.seq.now))) same
    ∙ required_last (seq_of c.args.seq.now) c.len.result (omega (arith, n))
