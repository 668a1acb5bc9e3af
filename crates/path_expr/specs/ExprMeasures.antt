-- No sequence of an expression is nested deeper than the expression's tree has parts.
use Rattle.std.specs.Prelude.{◌+◌, ◌≤◌, max, List, [], ◌∷◌, Option, None, Some}
use Rattle.std.proofs.Common.{arith}
use denote.Param.Weighed.{most}
use Rattle.path_spec.specs.Trees as tree
use Rattle.path_expr.specs.declared.tree.Sign.{Sign}
use Rattle.path_expr.specs.declared.tree.Atom.{Atom}
use Rattle.path_expr.specs.declared.tree.Atom.TheVariants.{Label, Any, Group}
use Rattle.path_expr.specs.declared.tree.Item.{Item}
use Rattle.path_expr.specs.declared.tree.Following.{Following}
use Rattle.path_expr.specs.declared.tree.Seq.{Seq}
use Rattle.path_expr.specs.declared.tree.Expr.TheDeep.{deep-Atom, deep-Item, deep-Following, deep-Seq}
use Rattle.path_expr.specs.ExprSizes.{nodes, seq_nodes, item_nodes, atom_nodes}
use Rattle.path_expr.specs.ExprTrees.{atom_of, signed_by, item_of, seq_from, seq_of, expr_from}

deep_atom : (a : Atom) → deep-Atom a ≤ atom_nodes (atom_of a)
deep_atom (Label t) = omega arith
deep_atom Any = omega arith
deep_atom (Group e) = omega arith

signed_nodes : (a : tree.Atom) (s : Option Sign) → atom_nodes a + 1 ≤ item_nodes (signed_by a s)
signed_nodes a None = omega arith
signed_nodes a (Some s) = omega arith

deep_item : (i : Item) → deep-Item i ≤ item_nodes (item_of i)
deep_item i = let a = deep_atom i.atom in let b = signed_nodes (atom_of i.atom) i.sign in omega (arith, a, b)

deep_step : (s : Following) → deep-Following s ≤ item_nodes (item_of s.item)
deep_step s = let a = deep_item s.item in omega (arith, a)

first_item : (i : tree.Item) (ss : List Following) → item_nodes i + 1 ≤ seq_nodes (seq_from i ss)
first_item i [] = omega arith
first_item i (s ∷ ss) = omega arith

deep_steps : (i : tree.Item) (ss : List Following) → most (λ x. deep-Following x) ss ≤ seq_nodes (seq_from i ss)
deep_steps i [] = omega arith
deep_steps i (s ∷ ss) =
    let a = deep_step s in
    let b = deep_steps (item_of s.item) ss in
    let c = first_item (item_of s.item) ss in
    omega (arith, a, b, c)

deep_seq : (s : Seq) → deep-Seq s ≤ seq_nodes (seq_of s)
deep_seq s =
    let a = deep_item s.first in
    let b = deep_steps (item_of s.first) s.rest.items in
    let c = first_item (item_of s.first) s.rest.items in
    omega (arith, a, b, c)

first_seq : (s : tree.Seq) (rs : List Seq) → seq_nodes s + 1 ≤ nodes (expr_from s rs)
first_seq s [] = omega arith
first_seq s (r ∷ rs) = omega arith

deep_seqs : (s : tree.Seq) (rs : List Seq) → most (λ x. deep-Seq x) rs ≤ nodes (expr_from s rs)
deep_seqs s [] = omega arith
deep_seqs s (r ∷ rs) =
    let a = deep_seq r in
    let b = deep_seqs (seq_of r) rs in
    let c = first_seq (seq_of r) rs in
    omega (arith, a, b, c)

-- no sequence of an expression is nested deeper than the tree of the expression has parts
pub deep_expr : (s : Seq) (rs : List Seq) → max (deep-Seq s) (max (most (λ x. deep-Seq x) rs) 0) ≤ nodes (expr_from (seq_of s) rs)
deep_expr s rs =
    let a = deep_seq s in
    let b = deep_seqs (seq_of s) rs in
    let c = first_seq (seq_of s) rs in
    omega (arith, a, b, c)
