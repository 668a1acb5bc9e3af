-- What the members of blocks of an index are for a graph, whatever graph the index fits.
use Rattle.std.specs.Prelude.{ℕ, ◌≡◌, Bool, true, false, List, length, IsTrue}
use Rattle.graph_spec.specs.Graphs.{Graph, IsGraph}
use Rattle.graph_spec.specs.Shapes.{shape_of}
use Rattle.graph_spec.specs.Members.{has}
use Rattle.bisim_spec.specs.Partitions.{Agrees, IsPartition}
use Rattle.bisim_spec.specs.IndexGraphs.{View, ViewFits, shape_of_view}
use Rattle.index_api.specs.declared.kinds.Via.{Via}
use Rattle.branch_query.specs.Queries.{Query, searched_form, IsQueryAnswer, AreQueryAnswers}
use Rattle.branch_query.specs.Candidates.{AreCandidates}
use Rattle.index_eval.specs.Exactness.{IsExact, FitsVia}
use Rattle.index_eval.specs.Extents.{AreOfBlocks}

-- The labels are `texts`, the index graph is v, and the query is asked: itself where `unrelaxed` is true, else its relaxed
-- form. What is said of each graph holds of every one with these labels that v fits.
module _ (texts : List (List ℕ)) (v : View) (q : Query) (unrelaxed : Bool) where
  -- the members of the blocks that answer the query, or its relaxed form, over the index graph
  abbrev pub AreOfAnsweringBlocks : List ℕ → Type 0
  AreOfAnsweringBlocks nodes = AreOfBlocks v.block_of (IsQueryAnswer (shape_of_view texts v) (searched_form unrelaxed q)) nodes

  -- the candidates by any relation with which the partition agrees
  abbrev pub AreCandidatesOfEach : List ℕ → Type 0
  AreCandidatesOfEach nodes = (g : Graph) (r : ℕ → ℕ → Bool) → IsGraph g → g.seen ≡ texts → ViewFits g v
      → Agrees (shape_of g) v.block_of (λ x y. IsTrue (r x y))
      → AreCandidates (shape_of g) r q unrelaxed nodes

  -- where the relaxed form is asked, each answer of the graph is among them
  abbrev pub HaveAnswersOfEach : List ℕ → Type 0
  HaveAnswersOfEach nodes = (g : Graph) → IsGraph g → g.seen ≡ texts → ViewFits g v → IsPartition (shape_of g) v.block_of → unrelaxed ≡ false
      → (n : ℕ) → IsQueryAnswer (shape_of g) q n → IsTrue (has nodes n)

  -- where the index is exact for the query, and the query itself is asked, they are the answers of the graph
  abbrev pub AreAnswersOfEach : List ℕ → Type 0
  AreAnswersOfEach nodes = (g : Graph) (via : Via) → IsGraph g → g.seen ≡ texts → FitsVia via g v → IsExact via q → unrelaxed ≡ true
      → AreQueryAnswers (shape_of g) q nodes

-- The relaxed form has so many candidates: that many nodes are in the blocks that answer it over the index graph.
pub record IsCandidateCount (texts : List (List ℕ)) (v : View) (q : Query) (count : ℕ) : Type 0 where
  -- the candidates
  pub nodes : List ℕ
  -- they are the members of the blocks that answer
  pub members : AreOfAnsweringBlocks texts v q false nodes
  -- they are the candidates by any relation with which the partition agrees
  pub candidates : AreCandidatesOfEach texts v q false nodes
  -- each answer of the graph is among them
  pub kept : HaveAnswersOfEach texts v q false nodes
  -- the count says how many they are
  pub count_is : count ≡ length nodes
