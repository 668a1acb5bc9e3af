-- Where the parts of a branching query hold, and its answers.
use Rattle.std.specs.Prelude.{ℕ, ◌≡◌, ◌⊎◌, Bool, List, Some, IsTrue}
use Rattle.std.specs.List.Sorted.{IsStrictlyIncreasing}
use Rattle.graph_spec.specs.Members.{has}
use Rattle.graph_spec.specs.Shapes.{Shape, IsNode}
use Rattle.branch_spec.specs.Trees.{Axis, child, below, parent, above, Test, label, any, Step, step, Preds, none, pred, Or, one, or, And, lone, and, Cond, fails, group, rel, always, Chain, no_step, go, Branch, first_step}

-- one or more edges lead from u to v
pub data Reaches (edge : ℕ → ℕ → Bool) : ℕ → ℕ → Type 0 where
  direct : (u v : ℕ) → IsTrue (edge u v) → Reaches edge u v
  further : (u w v : ℕ) → Reaches edge u w → IsTrue (edge w v) → Reaches edge u v

-- the axis leads from u to v
abbrev pub Along : (ℕ → ℕ → Bool) → Axis → ℕ → ℕ → Type 0
Along edge child u v = IsTrue (edge u v)
Along edge below u v = Reaches edge u v
Along edge parent u v = IsTrue (edge v u)
Along edge above u v = Reaches edge v u

-- it is a node, and its label passes the test
abbrev pub Passes : Shape → Test → ℕ → Type 0
Passes s (label t) v = s.label v ≡ Some t
Passes s any v = IsNode s v

abbrev mutual
  -- the node meets the step
  pub Meets : Shape → Step → ℕ → Type 0
  Meets s (step t ps) v = Passes s t v × HoldAll s ps v

  -- each predicate holds at the node
  pub HoldAll : Shape → Preds → ℕ → Type 0
  HoldAll s none v = Unit {0}
  HoldAll s (pred o ps) v = HoldsOr s o v × HoldAll s ps v

  -- one of the alternatives holds at the node
  pub HoldsOr : Shape → Or → ℕ → Type 0
  HoldsOr s (one a) v = HoldsAnd s a v
  HoldsOr s (or a o) v = HoldsAnd s a v ⊎ HoldsOr s o v

  -- each condition holds at the node
  pub HoldsAnd : Shape → And → ℕ → Type 0
  HoldsAnd s (lone c) v = HoldsCond s c v
  HoldsAnd s (and c a) v = HoldsCond s c v × HoldsAnd s a v

  -- what is denied fails, what stands in parentheses holds, or some nodes lead on from this one, each meeting its step; `always` holds
  pub HoldsCond : Shape → Cond → ℕ → Type 0
  HoldsCond s (fails o) v = HoldsOr s o v → ⊥
  HoldsCond s (group o) v = HoldsOr s o v
  HoldsCond s (rel a st ch) v = (c : ℕ) × Along s.edge a v c × Meets s st c × Goes s ch c
  HoldsCond s always v = Unit {0}

  -- some nodes lead on from the node along the chain, each meeting its step
  pub Goes : Shape → Chain → ℕ → Type 0
  Goes s no_step v = Unit {0}
  Goes s (go a st ch) v = (c : ℕ) × Along s.edge a v c × Meets s st c × Goes s ch c

-- some nodes lead from u to v along the chain, each meeting its step
abbrev pub Ends : Shape → Chain → ℕ → ℕ → Type 0
Ends s no_step u v = u ≡ v
Ends s (go a st ch) u v = (c : ℕ) × Along s.edge a u c × Meets s st c × Ends s ch c v

-- from some node that meets the first step, wherever it lies, nodes lead to this one along the others
abbrev pub IsBranchAnswer : Shape → Branch → ℕ → Type 0
IsBranchAnswer s (first_step st ch) v = (u : ℕ) × Meets s st u × Ends s ch u v

-- the nodes are the answers, each once, in the order of their numbers
pub record AreBranchAnswers (s : Shape) (q : Branch) (nodes : List ℕ) : Type 0 where
  -- from the least number to the greatest, with no repeats
  pub rising : IsStrictlyIncreasing nodes
  -- each listed node answers
  pub sound : (v : ℕ) → IsTrue (has nodes v) → IsBranchAnswer s q v
  -- each answer is listed
  pub complete : (v : ℕ) → IsBranchAnswer s q v → IsTrue (has nodes v)
