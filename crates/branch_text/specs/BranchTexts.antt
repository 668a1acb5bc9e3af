-- The canonical text of a tree, part by part.
use Rattle.std.specs.Prelude.{ℕ, List, [], ◌∷◌, ◌++◌, codes}
use Rattle.branch_spec.specs.Trees.{Test, label, any, Step, step, Preds, none, pred, Or, one, or, And, lone, and, Cond, fails, group, rel, always, Chain, no_step, go, Branch, first_step}
use Rattle.branch_spec.specs.Spelling.{axis_text}

-- a label as it is, or `_` (95) for any
abbrev pub test_text : Test → List ℕ
test_text (label t) = t
test_text any = 95 ∷ []

abbrev mutual
  -- a test, and behind it its predicates
  pub step_text : Step → List ℕ
  step_text (step t ps) = test_text t ++ preds_text ps

  -- predicates, each in brackets (91, 93), one behind another
  pub preds_text : Preds → List ℕ
  preds_text none = []
  preds_text (pred o ps) = 91 ∷ (or_text o ++ 93 ∷ preds_text ps)

  -- conjunctions, with ` or ` between them
  pub or_text : Or → List ℕ
  or_text (one a) = and_text a
  or_text (or a o) = and_text a ++ (codes " or " ++ or_text o)

  -- conditions, with ` and ` between them
  pub and_text : And → List ℕ
  and_text (lone c) = cond_text c
  and_text (and c a) = cond_text c ++ (codes " and " ++ and_text a)

  -- a condition: a negation, a group in parentheses (40, 41), or hops; nothing for what holds everywhere
  pub cond_text : Cond → List ℕ
  cond_text (fails o) = codes "not" ++ (40 ∷ (or_text o ++ 41 ∷ []))
  cond_text (group o) = 40 ∷ (or_text o ++ 41 ∷ [])
  cond_text (rel a st ch) = axis_text a ++ (step_text st ++ chain_text ch)
  cond_text always = []

  -- hops, one behind another, each an axis and a step
  pub chain_text : Chain → List ℕ
  chain_text no_step = []
  chain_text (go a st ch) = axis_text a ++ (step_text st ++ chain_text ch)

-- the first step, and behind it the hops that follow
abbrev pub branch_text : Branch → List ℕ
branch_text (first_step st ch) = step_text st ++ chain_text ch
