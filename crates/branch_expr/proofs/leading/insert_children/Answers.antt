use Rattle.std.proofs.Common.{◌∙◌, refl, sym, arith}
use Rattle.std.specs.Prelude.{nat_eq, slice_index}
use Rattle.std.proofs.lemmas.Bool.Decides.{Decides-eqb}
use Rattle.std.proofs.lemmas.List.Folds.{list_any_at}
use Rattle.branch_expr.proofs.leading.insert_children.Goals as goal

pub insert-requires : goal.insert-requires
insert-requires g c =
    let child = slice_index c.children-children.result.now c.loop-i.i in
    let listed = list_any_at (nat_eq child) c.children-children.result.now c.loop-i.i 0 c.loop-i-test.true ((Decides-eqb child child).1 refl) in
    let edge = sym (c.children-children.ensures.members child) ∙ listed in
    let below = g.met.G.Digraph.below c.args.g.now child (g.met.G.Digraph.ends c.args.g.now c.args.n child edge).1 in
    let size = c.loop-i.invariant.size in
    let span = c.requires.size in
    omega (arith, below, size, span)
