-- What a query answers where nodes are told apart by a relation alone, as an index tells them by its blocks (the index graph
-- of T. Milo and D. Suciu, "Index Structures for Path Expressions", ICDT 1999, with the edges of a block seen at each of its
-- nodes).
use Rattle.std.specs.Prelude.{ℕ, ◌&&◌, Bool, List, is_some}
use Rattle.graph_spec.specs.Shapes.{Shape}
use Rattle.bisim_spec.specs.Below.{any_below}
use Rattle.branch_query.specs.Queries.{Query, IsQueryAnswer, AreQueryAnswers, searched_form}

-- whether an edge leads from some node to which x is related to some node to which y is related
abbrev pub has_edge_between : Shape → (ℕ → ℕ → Bool) → ℕ → ℕ → Bool
has_edge_between s r x y = any_below s.size (λ p. r x p && any_below s.size (λ q. r y q && s.edge p q))

-- The loose graph of a test: the nodes and their labels are those of the graph, and an edge leads from x to y where one leads
-- from some node to which x is related to some node to which y is related.
abbrev pub loose : Shape → (ℕ → ℕ → Bool) → Shape
loose s r = record {
  size = s.size;
  label = s.label;
  edge = λ x y. is_some (s.label x) && (is_some (s.label y) && has_edge_between s r x y);
}

-- the node answers the query, or its relaxed form, over the loose graph
abbrev pub IsCandidate : Shape → (ℕ → ℕ → Bool) → Query → Bool → ℕ → Type 0
IsCandidate s r q unrelaxed v = IsQueryAnswer (loose s r) (searched_form unrelaxed q) v

-- the nodes are the candidates of the whole query, or of its relaxed form, each once, in the order of their numbers
abbrev pub AreCandidates : Shape → (ℕ → ℕ → Bool) → Query → Bool → List ℕ → Type 0
AreCandidates s r q unrelaxed nodes = AreQueryAnswers (loose s r) (searched_form unrelaxed q) nodes
