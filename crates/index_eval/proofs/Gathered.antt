-- What the members of the answering blocks of an index graph are, wherever that is one of a graph.
use Rattle.std.proofs.Common.{◌≡◌, ℕ, Bool, true, false, List, Option, Result, Ok, Err, IsTrue, sym, subst}
use Rattle.std.specs.Prelude.{IfOk}
use Rattle.std.specs.List.Sorted.{IsStrictlyIncreasing}
use Rattle.graph_spec.specs.Members.{has, at}
use Rattle.px_base.specs.BitSets.{BitSet}
use Rattle.bisim_spec.specs.IndexGraphs.{View, shape_of_view}
use Rattle.branch_query.specs.Queries.{Query, searched_form, IsQueryAnswer}
use Rattle.index_eval.specs.Extents.{is_in_blocks, AreOfBlocks}
use Rattle.index_eval.specs.Candidates.{AreOfAnsweringBlocks, AreCandidatesOfEach, HaveAnswersOfEach, AreAnswersOfEach}
use Rattle.index_eval.proofs.BlockSets.{are_of_blocks}
use Rattle.index_eval.proofs.BlockAnswers.{are_candidates, answers_kept}
use Rattle.index_eval.proofs.Exact.{exact_answers}

module _ (texts : List (List ℕ)) (v : View) (q : Query) (unrelaxed : Bool) where
  -- over the texts of a graph, and the form that is asked
  over : (set : BitSet) → AreOfAnsweringBlocks texts v q unrelaxed set.members → (seen : List (List ℕ)) → seen ≡ texts → (b : Bool) → unrelaxed ≡ b
      → AreOfBlocks v.block_of (IsQueryAnswer (shape_of_view seen v) (searched_form b q)) set.members
  over set h seen e b w =
      subst (λ t. AreOfBlocks v.block_of (IsQueryAnswer (shape_of_view t v) (searched_form b q)) set.members) (sym e)
      (subst (λ c. AreOfBlocks v.block_of (IsQueryAnswer (shape_of_view texts v) (searched_form c q)) set.members) w h)

  pub candidates_of_each : (set : BitSet) → AreOfAnsweringBlocks texts v q unrelaxed set.members → AreCandidatesOfEach texts v q unrelaxed set.members
  candidates_of_each set h g r is_graph seen fits agrees = are_candidates g is_graph v fits r agrees q unrelaxed set.members (over set h g.seen seen unrelaxed (λ i. unrelaxed))

  pub kept_of_each : (set : BitSet) → AreOfAnsweringBlocks texts v q unrelaxed set.members → HaveAnswersOfEach texts v q unrelaxed set.members
  kept_of_each set h g is_graph seen fits p w n a = answers_kept g is_graph v fits p q set.members (over set h g.seen seen false w) n a

  pub exact_of_each : (set : BitSet) → AreOfAnsweringBlocks texts v q unrelaxed set.members → AreAnswersOfEach texts v q unrelaxed set.members
  exact_of_each set h g via is_graph seen fits exact w = exact_answers g is_graph v via fits q exact set.members (over set h g.seen seen true w)

-- the members of the blocks, by the clauses on them
pub gathered : (block : List (Option ℕ)) (P : ℕ → Type 0) (blocks : List ℕ) → ((b : ℕ) → IsTrue (has blocks b) → P b) → ((b : ℕ) → P b → IsTrue (has blocks b))
    → {E : Type 0} (r : Result BitSet E) → IfOk r (λ s. IsStrictlyIncreasing s.members) → IfOk r (λ s. (n : ℕ) → has s.members n ≡ is_in_blocks blocks (at block n))
    → IfOk r (λ s. AreOfBlocks block P s.members)
gathered block P blocks get put (Ok s) rising is = are_of_blocks block P blocks s.members get put rising is
gathered block P blocks get put (Err e) rising is = tt
