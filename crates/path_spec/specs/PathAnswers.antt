-- The answers of a path expression.
use Rattle.std.specs.Prelude.{ℕ, List, IsTrue}
use Rattle.std.specs.List.Sorted.{IsStrictlyIncreasing}
use Rattle.graph_spec.specs.Members.{has}
use Rattle.graph_spec.specs.Shapes.{Shape}
use Rattle.graph_spec.specs.Walks.{Leads}
use Rattle.path_spec.specs.Trees.{Expr}
use Rattle.path_spec.specs.Matches.{Word, Matches}

-- some walk whose word matches ends in the node
abbrev pub IsAnswer : Shape → Expr → ℕ → Type 0
IsAnswer s e v = (word : Word) × Matches e word × (u : ℕ) × Leads s u word v

-- the nodes are the answers, each once, in the order of their numbers
pub record AreAnswers (s : Shape) (e : Expr) (nodes : List ℕ) : Type 0 where
  -- from the least number to the greatest, with no repeats
  pub rising : IsStrictlyIncreasing nodes
  -- each listed node answers
  pub sound : (v : ℕ) → IsTrue (has nodes v) → IsAnswer s e v
  -- each answer is listed
  pub complete : (v : ℕ) → IsAnswer s e v → IsTrue (has nodes v)
