-- The trees of path expressions.
use Rattle.std.specs.Prelude.{ℕ, List}

-- how often an atom comes
pub data Sign : Type 0 where
  -- '*', any number of times
  star : Sign
  -- '+', once or more
  plus : Sign
  -- '?', once or not at all
  opt : Sign

-- what stands between two items
pub data Sep : Type 0 where
  -- '/', a child
  child : Sep
  -- '//', a node below
  below : Sep

mutual
  -- one or more sequences, with '|' between them
  pub data Expr : Type 0 where
    only : Seq → Expr
    or : Seq → Expr → Expr

  -- an item, and more, each after its separator
  pub data Seq : Type 0 where
    last : Item → Seq
    then : Item → Sep → Seq → Seq

  -- an atom, once or as often as the sign says
  pub data Item : Type 0 where
    once : Atom → Item
    signed : Atom → Sign → Item

  -- one label, or an expression
  pub data Atom : Type 0 where
    -- this label
    label : List ℕ → Atom
    -- '_', any label
    any : Atom
    -- in parentheses
    group : Expr → Atom
