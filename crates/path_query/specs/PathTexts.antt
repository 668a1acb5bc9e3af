-- The canonical text of a tree, part by part.
use Rattle.std.specs.Prelude.{ℕ, List, [], ◌∷◌, ◌++◌}
use Rattle.path_spec.specs.Trees.{Expr, only, or, Seq, last, then, Item, once, signed, Atom, label, any, group}
use Rattle.path_spec.specs.Tokens.{sep_token}
use Rattle.path_spec.specs.Spelling.{sign_byte, token_text}

abbrev mutual
  -- the alternatives, with '|' between them
  pub expr_text : Expr → List ℕ
  expr_text (only s) = seq_text s
  expr_text (or s e) = seq_text s ++ (124 ∷ expr_text e)

  -- the items, with their separators between them
  pub seq_text : Seq → List ℕ
  seq_text (last i) = item_text i
  seq_text (then i p s) = item_text i ++ (token_text (sep_token p) ++ seq_text s)

  -- the atom, and its sign behind it
  pub item_text : Item → List ℕ
  item_text (once a) = atom_text a
  item_text (signed a g) = atom_text a ++ (sign_byte g ∷ [])

  -- the label, '_', or the expression in parentheses
  pub atom_text : Atom → List ℕ
  atom_text (label t) = t
  atom_text any = 95 ∷ []
  atom_text (group e) = 40 ∷ (expr_text e ++ 41 ∷ [])
