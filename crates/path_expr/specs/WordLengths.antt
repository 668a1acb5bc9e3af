-- The length of the longest matching word, by recursion on the tree.
use Rattle.std.specs.Prelude.{ℕ, ◌+◌, Option, None, Some}
use Rattle.path_spec.specs.Longest.{greater}
use Rattle.path_spec.specs.Trees.{star, plus, opt, child, below, Expr, only, or, Seq, last, then, Item, once, signed, Atom, label, any, group}

-- both lengths added up, and none where one of them has no bound
abbrev pub together : Option ℕ → Option ℕ → Option ℕ
together None b = None
together (Some m) None = None
together (Some m) (Some n) = Some (m + n)

-- Each atom matches a word that isn't empty, so what may come any number of times has no longest word.
abbrev mutual
  -- the greatest length of the alternatives
  pub longest : Expr → Option ℕ
  longest (only s) = seq_longest s
  longest (or s e) = greater (seq_longest s) (longest e)

  -- the lengths of the items added up; none where one has no bound, or '//' stands between two
  pub seq_longest : Seq → Option ℕ
  seq_longest (last i) = item_longest i
  seq_longest (then i child s) = together (item_longest i) (seq_longest s)
  seq_longest (then i below s) = None

  -- the length of the atom; none with '*' or '+'
  pub item_longest : Item → Option ℕ
  item_longest (once a) = atom_longest a
  item_longest (signed a star) = None
  item_longest (signed a plus) = None
  item_longest (signed a opt) = atom_longest a

  -- one label, and in parentheses the length of the expression
  pub atom_longest : Atom → Option ℕ
  atom_longest (label t) = Some 1
  atom_longest any = Some 1
  atom_longest (group e) = longest e
