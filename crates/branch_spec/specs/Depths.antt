-- How far from its answers a branching query looks: the depth up to which nodes must be told apart for it (R.
-- Kaushik, P. Bohannon, J. F. Naughton and H. F. Korth, "Covering Indexes for Branching Path Queries", SIGMOD 2002).
use Rattle.std.specs.Prelude.{ℕ, suc, ◌≤◌, Option, None, Some}
use Rattle.path_spec.specs.Longest.{greater}
use Rattle.branch_spec.specs.Trees.{Axis, child, below, parent, above, Step, step, Preds, none, pred, Or, one, or, And, lone, and, Cond, fails, group, rel, always, Chain, no_step, go, Branch, first_step}

-- one edge further
abbrev pub one_more : Option ℕ → Option ℕ
one_more None = None
one_more (Some d) = Some (suc d)

-- One axis further. Axes that lead by any number of edges have no depth.
abbrev pub further : Axis → Option ℕ → Option ℕ
further child d = one_more d
further below d = None
further parent d = one_more d
further above d = None

-- how far from the node the parts of a predicate look; none where there is no bound
abbrev mutual
  -- as far as the predicates of the step look
  pub step_depth : Step → Option ℕ
  step_depth (step t ps) = preds_depth ps

  -- as far as the one that looks furthest; not beyond the node where there is none
  pub preds_depth : Preds → Option ℕ
  preds_depth none = Some 0
  preds_depth (pred o ps) = greater (or_depth o) (preds_depth ps)

  -- as far as the alternative that looks furthest
  pub or_depth : Or → Option ℕ
  or_depth (one a) = and_depth a
  or_depth (or a o) = greater (and_depth a) (or_depth o)

  -- as far as the condition that looks furthest
  pub and_depth : And → Option ℕ
  and_depth (lone c) = cond_depth c
  and_depth (and c a) = greater (cond_depth c) (and_depth a)

  -- as far as what stands in parentheses, or one axis further than the step and its chain; 0 where it holds everywhere
  pub cond_depth : Cond → Option ℕ
  cond_depth (fails o) = or_depth o
  cond_depth (group o) = or_depth o
  cond_depth (rel a st ch) = further a (greater (step_depth st) (chain_depth ch))
  cond_depth always = Some 0

  -- one axis further than its first step and the chain behind it; 0 at the end
  pub chain_depth : Chain → Option ℕ
  chain_depth no_step = Some 0
  chain_depth (go a st ch) = further a (greater (step_depth st) (chain_depth ch))

-- How far from the end of a chain it looks, where d is how far from its beginning the steps before look: each axis
-- puts these one edge further off.
abbrev pub depth_from : Option ℕ → Chain → Option ℕ
depth_from d no_step = d
depth_from d (go a st ch) = depth_from (greater (further a d) (step_depth st)) ch

-- the depth of a branching query; none where there is no bound
abbrev pub depth : Branch → Option ℕ
depth (first_step st ch) = depth_from (step_depth st) ch

-- there is a depth, and it is at most this one
abbrev pub IsUpTo : Option ℕ → ℕ → Type 0
IsUpTo None most = ⊥
IsUpTo (Some d) most = d ≤ most
