use Rattle.std.proofs.Common.{◌≡◌, ◌+◌, ◌-◌, ap, ◌∙◌, subst, arith, Some}
use Rattle.std.specs.Prelude.{slice_get}
use Rattle.path_expr.specs.ExprTrees.{item_of, seq_of}
use Rattle.path_expr.specs.TreeParts.{items}
use Rattle.path_expr.proofs.PartLists.{separators_len, first_item, next_item}
use Rattle.path_expr.proofs.trimming.item_at.Goals as goal

pub index-requires : goal.index-requires
index-requires c =
    let n = separators_len (item_of c.args.seq.now.first) c.args.seq.now.rest.items in
    let r = c.requires in
    let some = c.if-number-eq0.false in
    omega (arith, n, r, some)

pub returns-then-number-eq0 : goal.returns-then-number-eq0
returns-then-number-eq0 c = ap (slice_get (items (seq_of c.args.seq.now))) c.if-number-eq0.true ∙ first_item (item_of c.args.seq.now.first) c.args.seq.now.rest.items

pub returns-else-number-eq0 : goal.returns-else-number-eq0
returns-else-number-eq0 c =
    let n = separators_len (item_of c.args.seq.now.first) c.args.seq.now.rest.items in
    let r = c.requires in
    let some = c.if-number-eq0.false in
    let back : c.args.number - 1 + 1 ≡ c.args.number = omega (arith, some) in
    subst (λ k. slice_get (items (seq_of c.args.seq.now)) k ≡ Some (item_of c.index.result.now.item)) back
    (next_item (item_of c.args.seq.now.first) c.args.seq.now.rest.items (c.args.number - 1) c.index.result.now (omega (arith, n, r, some)) c.index.ensures)
