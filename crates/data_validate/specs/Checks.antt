-- The answers of a query among some nodes.
use Rattle.std.specs.Prelude.{ℕ, List, IsTrue}
use Rattle.std.specs.List.Sorted.{IsStrictlyIncreasing}
use Rattle.graph_spec.specs.Members.{has}
use Rattle.graph_spec.specs.Shapes.{Shape}
use Rattle.branch_query.specs.Queries.{Query, IsQueryAnswer, AreQueryAnswers}

-- the nodes are those of the set that answer the query, each once, in the order of their numbers
pub record AreAnswersAmong (s : Shape) (q : Query) (set nodes : List ℕ) : Type 0 where
  -- from the least number to the greatest, with no repeats
  pub rising : IsStrictlyIncreasing nodes
  -- each listed node is of the set
  pub among : (v : ℕ) → IsTrue (has nodes v) → IsTrue (has set v)
  -- each listed node answers
  pub sound : (v : ℕ) → IsTrue (has nodes v) → IsQueryAnswer s q v
  -- each answer of the set is listed
  pub complete : (v : ℕ) → IsTrue (has set v) → IsQueryAnswer s q v → IsTrue (has nodes v)

-- where the set has all answers, the nodes are the answers
abbrev pub AreAnswersIfCovered : Shape → Query → List ℕ → List ℕ → Type 0
AreAnswersIfCovered s q set nodes = ((v : ℕ) → IsQueryAnswer s q v → IsTrue (has set v)) → AreQueryAnswers s q nodes

-- each of the nodes is of the kind
abbrev pub AreAll : (ℕ → Type 0) → List ℕ → Type 0
AreAll P nodes = (v : ℕ) → IsTrue (has nodes v) → P v

-- each member of the set that is of the kind is among the nodes
abbrev pub AreAllOf : (ℕ → Type 0) → List ℕ → List ℕ → Type 0
AreAllOf P set nodes = (v : ℕ) → IsTrue (has set v) → P v → IsTrue (has nodes v)
