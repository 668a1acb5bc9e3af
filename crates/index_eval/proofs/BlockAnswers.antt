-- The members of the blocks that answer over an index graph are the candidates, and all answers of the graph are among them.
use Rattle.std.proofs.Common.{◌≡◌, ℕ, List, ap, refl, sym, ◌∙◌, subst, Option, None, Some, IsTrue, IsSome, Bool, false, true≢false}
use Rattle.std.specs.Prelude.{is_some, option_and_then, slice_get}
use Rattle.graph_spec.specs.Graphs.{Graph, IsGraph}
use Rattle.graph_spec.specs.Shapes.{Shape, IsNode, IsShape, shape_of}
use Rattle.graph_spec.specs.Members.{has, at}
use Rattle.graph_spec.proofs.GraphLaws.{is_shape}
use Rattle.bisim_spec.specs.Partitions.{IsPartition, Agrees}
use Rattle.bisim_spec.specs.Tests.{together}
use Rattle.bisim_spec.specs.IndexGraphs.{View, ViewFits, shape_of_view}
use Rattle.bisim_spec.proofs.Bisimilar.{some_of}
use Rattle.bisim_spec.proofs.StabilityTests.{together_decides}
use Rattle.branch_query.specs.Queries.{Query, of_path, of_branch, IsQueryAnswer, relaxed, searched_form}
use Rattle.branch_query.specs.Candidates.{loose, AreCandidates}
use Rattle.index_eval.specs.Extents.{AreOfBlocks}
use Rattle.index_eval.proofs.MappedWalks.{ends_in_node}
use Rattle.index_eval.proofs.LooseWalks.{loose_is, path_kept}
use Rattle.index_eval.proofs.LooseBranches.{branch_node, relaxed_branch}
use Rattle.index_eval.proofs.Mapped.{block_or_past, block_answers, node_answers, block_branches, node_branches}

-- an answer is a node
pub answer_node : (s : Shape) (q : Query) (v : ℕ) → IsQueryAnswer s q v → IsNode s v
answer_node s (of_path e) v (w, m, u, h) = ends_in_node s u w v h
answer_node s (of_branch q) v h = branch_node s q v h

module _ (g : Graph) (is_graph : IsGraph g) (v : View) (fits : ViewFits g v) (r : ℕ → ℕ → Bool) (agrees : Agrees (shape_of g) v.block_of (λ x y. IsTrue (r x y))) where
  block_answers_query : (q : Query) (n : ℕ) → IsQueryAnswer (loose (shape_of g) r) q n → IsQueryAnswer (shape_of_view g.seen v) q (block_or_past v n)
  block_answers_query (of_path e) n h = block_answers g is_graph v fits r agrees e n h
  block_answers_query (of_branch q) n h = block_branches g is_graph v fits r agrees q n h

  node_answers_query : (q : Query) (n : ℕ) → IsQueryAnswer (shape_of_view g.seen v) q (block_or_past v n) → IsQueryAnswer (loose (shape_of g) r) q n
  node_answers_query (of_path e) n h = node_answers g is_graph v fits r agrees e n h
  node_answers_query (of_branch q) n h = node_branches g is_graph v fits r agrees q n h

  block_is : (n b : ℕ) → at v.block_of n ≡ Some b → block_or_past v n ≡ b
  block_is n b e = refl_of n b e
    where
      refl_of : (n b : ℕ) → at v.block_of n ≡ Some b → block_or_past v n ≡ b
      refl_of n b e = rw e refl

  pub are_candidates : (q : Query) (unrelaxed : Bool) (nodes : List ℕ) → AreOfBlocks v.block_of (IsQueryAnswer (shape_of_view g.seen v) (searched_form unrelaxed q)) nodes
      → AreCandidates (shape_of g) r q unrelaxed nodes
  are_candidates q unrelaxed nodes h = record {
    rising = h.rising;
    sound = λ n m.
        let b = h.sound n m in
        node_answers_query (searched_form unrelaxed q) n (subst (IsQueryAnswer (shape_of_view g.seen v) (searched_form unrelaxed q)) (sym (block_is n b.0 b.1)) b.2);
    complete = λ n a.
        let b = some_of (at v.block_of n) (agrees.partition.live n (answer_node (loose (shape_of g) r) (searched_form unrelaxed q) n a)) in
        h.complete n b.0 b.1 (subst (IsQueryAnswer (shape_of_view g.seen v) (searched_form unrelaxed q)) (block_is n b.0 b.1) (block_answers_query (searched_form unrelaxed q) n a));
  }

-- the blocks of a partition are the classes of the test for one block
pub agrees_together : (s : Shape) (block : List (Option ℕ)) → IsPartition s block → Agrees s block (λ x y. IsTrue (together block x y))
agrees_together s block p = record {
  partition = p;
  related = λ x y t. (together_decides block x y).1 t;
  grouped = λ x y nx ny t. (together_decides block x y).0 t;
}

-- where each node is related to itself, each answer is one of the relaxed form over the loose graph
relaxed_kept : (s : Shape) → IsShape s → (r : ℕ → ℕ → Bool) → ((n : ℕ) → IsNode s n → IsTrue (r n n)) → (q : Query) (n : ℕ) → IsQueryAnswer s q n
    → IsQueryAnswer (loose s r) (relaxed q) n
relaxed_kept s shape r self (of_path e) n h =
    path_kept s (loose s r) shape (λ x y. IsTrue (r x y)) (loose_is s shape r (λ x y. IsTrue (r x y)) (λ x y t. t) (λ x y nx ny t. t)) self e n h
relaxed_kept s shape r self (of_branch q) n h =
    relaxed_branch s (loose s r) shape (λ x y. IsTrue (r x y)) (loose_is s shape r (λ x y. IsTrue (r x y)) (λ x y t. t) (λ x y nx ny t. t)) self q n h

-- so each answer of the graph is among the candidates of the relaxed form
pub answers_kept : (g : Graph) → IsGraph g → (v : View) → ViewFits g v → IsPartition (shape_of g) v.block_of → (q : Query) (nodes : List ℕ)
    → AreOfBlocks v.block_of (IsQueryAnswer (shape_of_view g.seen v) (relaxed q)) nodes → (n : ℕ) → IsQueryAnswer (shape_of g) q n → IsTrue (has nodes n)
answers_kept g is_graph v fits p q nodes h n a =
    let s = shape_of g in
    let agrees = agrees_together s v.block_of p in
    let self = λ (m : ℕ) (node : IsNode s m). (let b = some_of (at v.block_of m) (p.live m node) in agrees.related m m (b.0, b.1, b.1)) in
    (are_candidates g is_graph v fits (together v.block_of) agrees q false nodes h).complete n (relaxed_kept s (is_shape g is_graph) (together v.block_of) self q n a)

-- a block that answers is one
pub answering_block : (texts : List (List ℕ)) (v : View) (q : Query) (b : ℕ) → IsQueryAnswer (shape_of_view texts v) q b → IsSome (at v.labels b)
answering_block texts v q b h = labelled (at v.labels b) refl (answer_node (shape_of_view texts v) q b h)
  where
    labelled : (o : Option ℕ) → at v.labels b ≡ o → IsSome (option_and_then (λ l. slice_get texts l) (at v.labels b)) → IsSome (at v.labels b)
    labelled None e k = absurd (true≢false (sym k ∙ ap (λ o. is_some (option_and_then (λ l. slice_get texts l) o)) e))
    labelled (Some l) e k = ap is_some e
