-- The tokens of an expression. Each tree has just one list of them, since its parentheses are kept.
use Rattle.std.specs.Prelude.{ℕ, List, [], ◌∷◌}
use Rattle.path_spec.specs.Trees.{Sign, Sep, child, below, Expr, only, or, Seq, last, then, Item, once, signed, Atom, label, any, group}

-- what the text of an expression is made of, but for its blanks
pub data Token : Type 0 where
  -- a label, by its text
  lab : List ℕ → Token
  -- '_'
  underscore : Token
  -- '/'
  slash : Token
  -- '//'
  slashes : Token
  -- '|'
  bar : Token
  -- '(' and ')'
  opening : Token
  closing : Token
  -- '*', '+' or '?'
  sign : Sign → Token

-- '/' before a child, '//' before a node below
abbrev pub sep_token : Sep → Token
sep_token child = slash
sep_token below = slashes

-- the tokens of a part, before those that follow
abbrev mutual
  -- the alternatives, with '|' between them
  pub onto : Expr → List Token → List Token
  onto (only s) r = seq_onto s r
  onto (or s e) r = seq_onto s (bar ∷ onto e r)

  -- the items, with their separators between them
  pub seq_onto : Seq → List Token → List Token
  seq_onto (last i) r = item_onto i r
  seq_onto (then i p s) r = item_onto i (sep_token p ∷ seq_onto s r)

  -- the atom, and its sign behind it
  pub item_onto : Item → List Token → List Token
  item_onto (once a) r = atom_onto a r
  item_onto (signed a g) r = atom_onto a (sign g ∷ r)

  -- the label, '_', or the expression in parentheses
  pub atom_onto : Atom → List Token → List Token
  atom_onto (label t) r = lab t ∷ r
  atom_onto any r = underscore ∷ r
  atom_onto (group e) r = opening ∷ onto e (closing ∷ r)

-- the tokens of the whole expression
abbrev pub tokens : Expr → List Token
tokens e = onto e []

-- what may follow an expression: nothing, or ')'
abbrev pub EndsExpr : List Token → Type 0
EndsExpr [] = Unit {0}
EndsExpr (lab t ∷ r) = ⊥
EndsExpr (underscore ∷ r) = ⊥
EndsExpr (slash ∷ r) = ⊥
EndsExpr (slashes ∷ r) = ⊥
EndsExpr (bar ∷ r) = ⊥
EndsExpr (opening ∷ r) = ⊥
EndsExpr (closing ∷ r) = Unit {0}
EndsExpr (sign g ∷ r) = ⊥

-- or '|', behind a sequence
abbrev pub EndsSeq : List Token → Type 0
EndsSeq [] = Unit {0}
EndsSeq (lab t ∷ r) = ⊥
EndsSeq (underscore ∷ r) = ⊥
EndsSeq (slash ∷ r) = ⊥
EndsSeq (slashes ∷ r) = ⊥
EndsSeq (bar ∷ r) = Unit {0}
EndsSeq (opening ∷ r) = ⊥
EndsSeq (closing ∷ r) = Unit {0}
EndsSeq (sign g ∷ r) = ⊥

-- or a separator, behind an item
abbrev pub EndsItem : List Token → Type 0
EndsItem [] = Unit {0}
EndsItem (lab t ∷ r) = ⊥
EndsItem (underscore ∷ r) = ⊥
EndsItem (slash ∷ r) = Unit {0}
EndsItem (slashes ∷ r) = Unit {0}
EndsItem (bar ∷ r) = Unit {0}
EndsItem (opening ∷ r) = ⊥
EndsItem (closing ∷ r) = Unit {0}
EndsItem (sign g ∷ r) = ⊥
