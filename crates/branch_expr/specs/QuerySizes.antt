-- How many parts a tree has.
use Rattle.std.specs.Prelude.{ℕ, ◌+◌}
use Rattle.branch_spec.specs.Trees.{Step, step, Preds, none, pred, Or, one, or, And, lone, and, Cond, fails, group, rel, always, Chain, no_step, go}

abbrev mutual
  -- how many parts alternatives have, the empty ends of lists among them; tests and axes aren't counted
  pub nodes : Or → ℕ
  nodes (one a) = and_nodes a + 1
  nodes (or a o) = and_nodes a + nodes o + 1

  -- how many parts a conjunction has
  pub and_nodes : And → ℕ
  and_nodes (lone c) = cond_nodes c + 1
  and_nodes (and c a) = cond_nodes c + and_nodes a + 1

  -- how many parts a condition has
  pub cond_nodes : Cond → ℕ
  cond_nodes (fails o) = nodes o + 1
  cond_nodes (group o) = nodes o + 1
  cond_nodes (rel a s ch) = step_nodes s + chain_nodes ch + 1
  cond_nodes always = 1

  -- how many parts a step has
  pub step_nodes : Step → ℕ
  step_nodes (step t ps) = preds_nodes ps + 1

  -- how many parts the predicates of a step have
  pub preds_nodes : Preds → ℕ
  preds_nodes none = 1
  preds_nodes (pred o ps) = nodes o + preds_nodes ps + 1

  -- how many parts a chain has
  pub chain_nodes : Chain → ℕ
  chain_nodes no_step = 1
  chain_nodes (go a s ch) = step_nodes s + chain_nodes ch + 1
