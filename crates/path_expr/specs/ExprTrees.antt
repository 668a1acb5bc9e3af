-- The tree that an expression stands for.
use Rattle.std.specs.Prelude.{List, [], ◌∷◌, Option, None, Some}
use Rattle.path_spec.specs.Trees as tree
use Rattle.path_expr.specs.declared.tree.Sign.{Sign}
use Rattle.path_expr.specs.declared.tree.Sign.TheVariants.{Star, Plus, Opt}
use Rattle.path_expr.specs.declared.tree.Sep.{Sep}
use Rattle.path_expr.specs.declared.tree.Sep.TheVariants.{Child, Below}
use Rattle.path_expr.specs.declared.tree.Atom.{Atom}
use Rattle.path_expr.specs.declared.tree.Atom.TheVariants.{Label, Any, Group}
use Rattle.path_expr.specs.declared.tree.Item.{Item}
use Rattle.path_expr.specs.declared.tree.Following.{Following}
use Rattle.path_expr.specs.declared.tree.Seq.{Seq}

-- the sign that it stands for
abbrev pub sign_of : Sign → tree.Sign
sign_of Star = tree.star
sign_of Plus = tree.plus
sign_of Opt = tree.opt

-- the separator that it stands for
abbrev pub sep_of : Sep → tree.Sep
sep_of Child = tree.child
sep_of Below = tree.below

-- the atom that it stands for
abbrev pub atom_of : Atom → tree.Atom
atom_of (Label t) = tree.label t
atom_of Any = tree.any
atom_of (Group e) = tree.group e.value

-- the atom, with its sign if it has one
abbrev pub signed_by : tree.Atom → Option Sign → tree.Item
signed_by a None = tree.once a
signed_by a (Some s) = tree.signed a (sign_of s)

-- the item that it stands for
abbrev pub item_of : Item → tree.Item
item_of i = signed_by (atom_of i.atom) i.sign

-- an item, and those that follow, each after its separator
abbrev pub seq_from : tree.Item → List Following → tree.Seq
seq_from i [] = tree.last i
seq_from i (s ∷ ss) = tree.then i (sep_of s.sep) (seq_from (item_of s.item) ss)

-- the sequence that it stands for
abbrev pub seq_of : Seq → tree.Seq
seq_of s = seq_from (item_of s.first) s.rest.items

-- a sequence, and more, as alternatives
abbrev pub expr_from : tree.Seq → List Seq → tree.Expr
expr_from s [] = tree.only s
expr_from s (r ∷ rs) = tree.or s (expr_from (seq_of r) rs)
