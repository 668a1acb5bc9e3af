-- The tokens of a query. Each tree has just one list of them, since its parentheses are kept.
use Rattle.std.specs.Prelude.{ℕ, List, [], ◌∷◌}
use Rattle.branch_spec.specs.Trees.{Axis, Test, label, any, Step, step, Preds, none, pred, Or, one, or, And, lone, and, Cond, fails, group, rel, always, Chain, no_step, go, Branch, first_step}

-- what the text of a query is made of, but for its blanks
pub data Token : Type 0 where
  -- a label, by its text
  lab : List ℕ → Token
  -- '_'
  underscore : Token
  -- '/', '//', '\' or '\\'
  axis : Axis → Token
  -- '[' and ']'
  left : Token
  right : Token
  -- '(' and ')'
  opening : Token
  closing : Token
  -- the words 'not', 'and' and 'or'
  not_word : Token
  and_word : Token
  or_word : Token
  -- what has no text
  nothing : Token

-- the tokens of a part, before those that follow
abbrev pub test_onto : Test → List Token → List Token
test_onto (label t) r = lab t ∷ r
test_onto any r = underscore ∷ r

abbrev mutual
  -- the test, and the predicates behind it
  pub step_onto : Step → List Token → List Token
  step_onto (step t ps) r = test_onto t (preds_onto ps r)

  -- each predicate between brackets
  pub preds_onto : Preds → List Token → List Token
  preds_onto none r = r
  preds_onto (pred o ps) r = left ∷ or_onto o (right ∷ preds_onto ps r)

  -- the alternatives, with 'or' between them
  pub or_onto : Or → List Token → List Token
  or_onto (one a) r = and_onto a r
  or_onto (or a o) r = and_onto a (or_word ∷ or_onto o r)

  -- the conditions, with 'and' between them
  pub and_onto : And → List Token → List Token
  and_onto (lone c) r = cond_onto c r
  and_onto (and c a) r = cond_onto c (and_word ∷ and_onto a r)

  -- what is denied, behind 'not' and in parentheses; what stands in parentheses; or an axis, a step and its chain
  pub cond_onto : Cond → List Token → List Token
  cond_onto (fails o) r = not_word ∷ opening ∷ or_onto o (closing ∷ r)
  cond_onto (group o) r = opening ∷ or_onto o (closing ∷ r)
  cond_onto (rel a st ch) r = axis a ∷ step_onto st (chain_onto ch r)
  cond_onto always r = nothing ∷ r

  -- each step behind its axis
  pub chain_onto : Chain → List Token → List Token
  chain_onto no_step r = r
  chain_onto (go a st ch) r = axis a ∷ step_onto st (chain_onto ch r)

-- the first step, and its chain behind it
abbrev pub onto : Branch → List Token → List Token
onto (first_step st ch) r = step_onto st (chain_onto ch r)

-- the tokens of the whole query
abbrev pub tokens : Branch → List Token
tokens q = onto q []

-- what may follow one or more with 'or' between them: nothing, ']' or ')'
abbrev pub EndsOr : List Token → Type 0
EndsOr [] = Unit {0}
EndsOr (lab t ∷ r) = ⊥
EndsOr (underscore ∷ r) = ⊥
EndsOr (axis a ∷ r) = ⊥
EndsOr (left ∷ r) = ⊥
EndsOr (right ∷ r) = Unit {0}
EndsOr (opening ∷ r) = ⊥
EndsOr (closing ∷ r) = Unit {0}
EndsOr (not_word ∷ r) = ⊥
EndsOr (and_word ∷ r) = ⊥
EndsOr (or_word ∷ r) = ⊥
EndsOr (nothing ∷ r) = ⊥

-- or 'or', behind conditions with 'and' between them
abbrev pub EndsAnd : List Token → Type 0
EndsAnd [] = Unit {0}
EndsAnd (lab t ∷ r) = ⊥
EndsAnd (underscore ∷ r) = ⊥
EndsAnd (axis a ∷ r) = ⊥
EndsAnd (left ∷ r) = ⊥
EndsAnd (right ∷ r) = Unit {0}
EndsAnd (opening ∷ r) = ⊥
EndsAnd (closing ∷ r) = Unit {0}
EndsAnd (not_word ∷ r) = ⊥
EndsAnd (and_word ∷ r) = ⊥
EndsAnd (or_word ∷ r) = Unit {0}
EndsAnd (nothing ∷ r) = ⊥

-- or 'and', behind a condition or a chain
abbrev pub EndsChain : List Token → Type 0
EndsChain [] = Unit {0}
EndsChain (lab t ∷ r) = ⊥
EndsChain (underscore ∷ r) = ⊥
EndsChain (axis a ∷ r) = ⊥
EndsChain (left ∷ r) = ⊥
EndsChain (right ∷ r) = Unit {0}
EndsChain (opening ∷ r) = ⊥
EndsChain (closing ∷ r) = Unit {0}
EndsChain (not_word ∷ r) = ⊥
EndsChain (and_word ∷ r) = Unit {0}
EndsChain (or_word ∷ r) = Unit {0}
EndsChain (nothing ∷ r) = ⊥

-- or an axis, behind a step
abbrev pub EndsStep : List Token → Type 0
EndsStep [] = Unit {0}
EndsStep (lab t ∷ r) = ⊥
EndsStep (underscore ∷ r) = ⊥
EndsStep (axis a ∷ r) = Unit {0}
EndsStep (left ∷ r) = ⊥
EndsStep (right ∷ r) = Unit {0}
EndsStep (opening ∷ r) = ⊥
EndsStep (closing ∷ r) = Unit {0}
EndsStep (not_word ∷ r) = ⊥
EndsStep (and_word ∷ r) = Unit {0}
EndsStep (or_word ∷ r) = Unit {0}
EndsStep (nothing ∷ r) = ⊥
