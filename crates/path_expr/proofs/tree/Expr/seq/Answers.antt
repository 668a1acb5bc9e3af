use Rattle.std.proofs.Common.{◌≡◌, ◌-◌, ap, sym, subst, length, Some, arith}
use Rattle.std.specs.Prelude.{slice_get}
use Rattle.path_expr.specs.TreeParts.{alternatives}
use Rattle.path_expr.specs.ExprTrees.{seq_of, expr_from}
use Rattle.path_expr.proofs.PartLists.{alternatives_len, first_alternative, next_alternative}
use Rattle.path_expr.proofs.tree.Expr.seq.Goals as goal

pub index-requires : goal.index-requires
index-requires c =
    let n = alternatives_len (seq_of c.self.inside.first) c.self.inside.more.items in
    let v = ap (λ e. length (alternatives e)) c.self.view_is in
    let r = c.requires in
    let f = c.if-j-eq0.false in
    omega (arith, n, v, r, f)

pub returns-then-j-eq0 : goal.returns-then-j-eq0
returns-then-j-eq0 c =
    subst (λ e. slice_get (alternatives e) c.args.j ≡ Some (seq_of c.self.inside.first)) c.self.view_is
    (subst (λ j. slice_get (alternatives (expr_from (seq_of c.self.inside.first) c.self.inside.more.items)) j ≡ Some (seq_of c.self.inside.first)) (sym c.if-j-eq0.true) (first_alternative (seq_of c.self.inside.first) c.self.inside.more.items))

pub returns-else-j-eq0 : goal.returns-else-j-eq0
returns-else-j-eq0 c =
    let n = alternatives_len (seq_of c.self.inside.first) c.self.inside.more.items in
    let v = ap (λ e. length (alternatives e)) c.self.view_is in
    let r = c.requires in
    let f = c.if-j-eq0.false in
    subst (λ e. slice_get (alternatives e) c.args.j ≡ Some (seq_of c.index.result.now)) c.self.view_is
    (next_alternative (seq_of c.self.inside.first) c.self.inside.more.items c.args.j (c.args.j - 1) c.index.result.now (omega (arith, f)) (omega (arith, n, v, r, f)) c.index.ensures)
