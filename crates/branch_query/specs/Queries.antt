-- Queries, their answers over any graph, and their relaxed forms.
use Rattle.std.specs.Prelude.{ℕ, Bool, true, false, List, IsTrue}
use Rattle.std.specs.List.Sorted.{IsStrictlyIncreasing}
use Rattle.graph_spec.specs.Members.{has}
use Rattle.graph_spec.specs.Shapes.{Shape}
use Rattle.path_spec.specs.Trees.{Expr}
use Rattle.path_spec.specs.PathAnswers.{IsAnswer}
use Rattle.branch_spec.specs.Trees.{Branch}
use Rattle.branch_spec.specs.BranchAnswers.{IsBranchAnswer}
use Rattle.branch_spec.specs.Relaxed.{relax}
use Rattle.branch_query.specs.declared.queries.Query.{Query as Asked}
use Rattle.branch_query.specs.declared.queries.Query.TheVariants as asked

-- a path expression or a branching query
pub data Query : Type 0 where
  -- a path expression
  of_path : Expr → Query
  -- a branching query
  of_branch : Branch → Query

-- the query that the code's value stands for
abbrev pub query_of : Asked → Query
query_of (asked.Path e) = of_path e.now
query_of (asked.Branch q) = of_branch q.now

-- the node answers the query
abbrev pub IsQueryAnswer : Shape → Query → ℕ → Type 0
IsQueryAnswer s (of_path e) v = IsAnswer s e v
IsQueryAnswer s (of_branch q) v = IsBranchAnswer s q v

-- the nodes are those that answer the query, each once, in the order of their numbers
pub record AreQueryAnswers (s : Shape) (q : Query) (nodes : List ℕ) : Type 0 where
  -- from the least number to the greatest, with no repeats
  pub rising : IsStrictlyIncreasing nodes
  -- each listed node answers
  pub sound : (v : ℕ) → IsTrue (has nodes v) → IsQueryAnswer s q v
  -- each answer is listed
  pub complete : (v : ℕ) → IsQueryAnswer s q v → IsTrue (has nodes v)

-- What a query asks where more edges may be seen than there are: what it denies is left out, as what holds everywhere. A path
-- expression denies nothing, and is its own relaxed form.
abbrev pub relaxed : Query → Query
relaxed (of_path e) = of_path e
relaxed (of_branch q) = of_branch (relax q)

-- the whole query, or its relaxed form
abbrev pub searched_form : Bool → Query → Query
searched_form true q = q
searched_form false q = relaxed q
