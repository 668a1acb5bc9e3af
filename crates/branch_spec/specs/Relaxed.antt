-- Relaxed queries: whatever is denied is left out, and what holds everywhere stands in its place.
use Rattle.branch_spec.specs.Trees.{Step, step, Preds, none, pred, Or, one, or, And, lone, and, Cond, fails, group, rel, always, Chain, no_step, go, Branch, first_step}

abbrev mutual
  -- the test stays, and the predicates are relaxed
  pub relax_step : Step → Step
  relax_step (step t ps) = step t (relax_preds ps)

  -- each predicate is relaxed
  pub relax_preds : Preds → Preds
  relax_preds none = none
  relax_preds (pred o ps) = pred (relax_or o) (relax_preds ps)

  -- each alternative is relaxed
  pub relax_or : Or → Or
  relax_or (one a) = one (relax_and a)
  relax_or (or a o) = or (relax_and a) (relax_or o)

  -- each condition is relaxed
  pub relax_and : And → And
  relax_and (lone c) = lone (relax_cond c)
  relax_and (and c a) = and (relax_cond c) (relax_and a)

  -- a denied condition becomes one that holds everywhere; in the others what stands inside is relaxed
  pub relax_cond : Cond → Cond
  relax_cond (fails o) = always
  relax_cond (group o) = group (relax_or o)
  relax_cond (rel a st ch) = rel a (relax_step st) (relax_chain ch)
  relax_cond always = always

  -- each step is relaxed, and the axes stay
  pub relax_chain : Chain → Chain
  relax_chain no_step = no_step
  relax_chain (go a st ch) = go a (relax_step st) (relax_chain ch)

-- the first step and its chain are relaxed
abbrev pub relax : Branch → Branch
relax (first_step st ch) = first_step (relax_step st) (relax_chain ch)
