-- The trees of branching queries: the branching path expressions of R. Kaushik, P. Bohannon, J. F. Naughton and H. F. Korth,
-- "Covering Indexes for Branching Path Queries", SIGMOD 2002.
use Rattle.std.specs.Prelude.{ℕ, List}

-- where the next node lies
pub data Axis : Type 0 where
  -- '/', a child
  child : Axis
  -- '//', a node below
  below : Axis
  -- '\', a parent
  parent : Axis
  -- '\\', a node above
  above : Axis

-- what a node's label must be
pub data Test : Type 0 where
  -- this label
  label : List ℕ → Test
  -- '_', any label
  any : Test

mutual
  -- a test, and predicates
  pub data Step : Type 0 where
    step : Test → Preds → Step

  -- predicates, each in brackets
  pub data Preds : Type 0 where
    none : Preds
    pred : Or → Preds → Preds

  -- one or more, with 'or' between them
  pub data Or : Type 0 where
    one : And → Or
    or : And → Or → Or

  -- one or more conditions, with 'and' between them
  pub data And : Type 0 where
    lone : Cond → And
    and : Cond → And → And

  -- what must hold at a node
  pub data Cond : Type 0 where
    -- 'not', and what is denied in parentheses
    fails : Or → Cond
    -- in parentheses
    group : Or → Cond
    -- a step after its axis, and more
    rel : Axis → Step → Chain → Cond
    -- it holds everywhere, and has no text
    always : Cond

  -- steps, each after its axis
  pub data Chain : Type 0 where
    no_step : Chain
    go : Axis → Step → Chain → Chain

-- a first step, and more, each after its axis
pub data Branch : Type 0 where
  first_step : Step → Chain → Branch
