-- Where an index is exact for a query, the candidates are the answers.
use Rattle.std.proofs.Common.{ℕ, ◌+◌, List, Option, Bool, true}
use Rattle.graph_spec.specs.Graphs.{Graph, IsGraph}
use Rattle.graph_spec.specs.Shapes.{Shape, IsNode, IsShape, shape_of}
use Rattle.graph_spec.specs.Members.{at}
use Rattle.graph_spec.proofs.GraphLaws.{is_shape}
use Rattle.path_spec.specs.Trees.{Expr}
use Rattle.bisim_spec.specs.declared.sides.Sides.{Sides}
use Rattle.bisim_spec.specs.declared.sides.Sides.TheVariants as sides
use Rattle.bisim_spec.specs.Bisimilarity.{Bis, Both}
use Rattle.bisim_spec.specs.SidedLevels.{AtLevel}
use Rattle.bisim_spec.specs.Partitions.{Together, IsPartition, Agrees}
use Rattle.bisim_spec.specs.Stability.{Stable, StableBoth}
use Rattle.bisim_spec.specs.Tests.{together}
use Rattle.bisim_spec.specs.IndexGraphs.{View, ViewFits, shape_of_view}
use Rattle.bisim_spec.proofs.Bisimilar.{some_of, both_bis}
use Rattle.bisim_spec.proofs.LevelSides.{level_family}
use Rattle.bisim_spec.proofs.Stable.{stable_label, stable_parents, stable_bisimulation, fb_stable}
use Rattle.bisim_spec.proofs.StabilityTests.{together_decides}
use Rattle.bisim_spec.proofs.Together.{together_sym, together_trans}
use Rattle.index_api.specs.declared.kinds.Via.{Via}
use Rattle.index_api.specs.declared.kinds.Via.TheVariants.{Data, A, One, Fb, B}
use Rattle.branch_spec.specs.Trees.{Branch}
use Rattle.branch_spec.specs.Depths.{depth, IsUpTo}
use Rattle.branch_spec.proofs.AnswersAgree.{Follows}
use Rattle.branch_query.specs.Queries.{Query, of_path, of_branch, IsQueryAnswer, AreQueryAnswers}
use Rattle.branch_query.specs.Candidates.{loose, AreCandidates}
use Rattle.index_eval.specs.Exactness.{IsExact, HasLongestWithin, FitsVia}
use Rattle.index_eval.specs.Extents.{AreOfBlocks}
use Rattle.index_eval.proofs.LooseWalks.{IsLoose, loose_is, path_kept, level_back, bisimilar_back}
use Rattle.index_eval.proofs.LooseBranches.{branch_there, branch_back}
use Rattle.index_eval.proofs.LooseLevels.{shallow_there, shallow_back}
use Rattle.index_eval.proofs.BlockAnswers.{are_candidates, agrees_together}

-- the loose graph of a partition into the classes of a relation is that of the relation
blocks_loose : (s : Shape) → IsShape s → (block : List (Option ℕ)) (R : ℕ → ℕ → Type 0) → Agrees s block R → IsLoose s R (loose s (together block))
blocks_loose s shape block R a =
    loose_is s shape (together block) R (λ x y t. a.related x y ((together_decides block x y).0 t)) (λ x y nx ny h. (together_decides block x y).1 (a.grouped x y nx ny h))

-- each node is in one block with itself
same_block : (s : Shape) (block : List (Option ℕ)) → IsPartition s block → (n : ℕ) → IsNode s n → Together block n n
same_block s block p n node = let b = some_of (at block n) (p.live n node) in (b.0, b.1, b.1)

agrees_self : (s : Shape) (block : List (Option ℕ)) → IsPartition s block → Agrees s block (Together block)
agrees_self s block p = record { partition = p; related = λ x y t. t; grouped = λ x y nx ny t. t }

-- related nodes of a partition that is stable both ways have related parents and children
stable_follows : (s : Shape) (block : List (Option ℕ)) → StableBoth s block → Follows s s (Together block)
stable_follows s block st = record {
  labels = λ u v t. stable_label s block st.stable u v t;
  from = λ u v c t e. st.children u v t c e;
  onto = λ u v p t e. stable_parents s block st.stable u v t p e;
}

-- a set of candidates that are just the answers of a query
query_answers : (s : Shape) (r : ℕ → ℕ → Bool) (q : Query) (nodes : List ℕ) → ((v : ℕ) → IsQueryAnswer s q v → IsQueryAnswer (loose s r) q v)
    → ((v : ℕ) → IsQueryAnswer (loose s r) q v → IsQueryAnswer s q v) → AreCandidates s r q true nodes → AreQueryAnswers s q nodes
query_answers s r q nodes there back h = record { rising = h.rising; sound = λ v m. back v (h.sound v m); complete = λ v a. h.complete v (there v a) }

-- nodes that are bisimilar by the sides that count are so by their parents
by_parents : (which : Sides) (s : Shape) (i u v : ℕ) → AtLevel which s i u v → Bis s i u v
by_parents sides.Parents s i u v h = h
by_parents sides.Both s i u v h = both_bis s i u v h

module _ (g : Graph) (is_graph : IsGraph g) (v : View) (fits : ViewFits g v) (nodes : List ℕ) where
  abbrev s : Shape
  s = shape_of g

  candidates_of : IsPartition s v.block_of → (q : Query) → AreOfBlocks v.block_of (IsQueryAnswer (shape_of_view g.seen v) q) nodes → AreCandidates s (together v.block_of) q true nodes
  candidates_of p q h = are_candidates g is_graph v fits (together v.block_of) (agrees_together s v.block_of p) q true nodes h

  -- through a partition by a level, where no word is longer than the level allows
  level_exact : (which : Sides) (i : ℕ) → Agrees s v.block_of (AtLevel which s i) → (e : Expr) → HasLongestWithin e (i + 1)
      → AreOfBlocks v.block_of (IsQueryAnswer (shape_of_view g.seen v) (of_path e)) nodes → AreQueryAnswers s (of_path e) nodes
  level_exact which i a e within h =
      let shape = is_shape g is_graph in
      let is_loose = blocks_loose s shape v.block_of (AtLevel which s i) a in
      query_answers s (together v.block_of) (of_path e) nodes
      (path_kept s (loose s (together v.block_of)) shape (AtLevel which s i) is_loose ((level_family which s shape).self i) e)
      (level_back s (loose s (together v.block_of)) shape i (AtLevel which s i) is_loose (by_parents which s i) e within) (candidates_of a.partition (of_path e) h)

  -- a branching query through one by parents and children, where it looks no further than the level allows
  shallow_exact : (i : ℕ) → Agrees s v.block_of (Both s i) → (q : Branch) → IsUpTo (depth q) i
      → AreOfBlocks v.block_of (IsQueryAnswer (shape_of_view g.seen v) (of_branch q)) nodes → AreQueryAnswers s (of_branch q) nodes
  shallow_exact i a q within h =
      let shape = is_shape g is_graph in
      let is_loose = blocks_loose s shape v.block_of (Both s i) a in
      query_answers s (together v.block_of) (of_branch q) nodes (shallow_there s (loose s (together v.block_of)) shape i is_loose q within)
      (shallow_back s (loose s (together v.block_of)) shape i is_loose q within) (candidates_of a.partition (of_branch q) h)

  -- through a stable partition
  stable_exact : Stable s v.block_of → (e : Expr) → AreOfBlocks v.block_of (IsQueryAnswer (shape_of_view g.seen v) (of_path e)) nodes → AreQueryAnswers s (of_path e) nodes
  stable_exact st e h =
      let shape = is_shape g is_graph in
      let block = v.block_of in
      let self = same_block s block st.partition in
      let is_loose = blocks_loose s shape block (Together block) (agrees_self s block st.partition) in
      query_answers s (together block) (of_path e) nodes (path_kept s (loose s (together block)) shape (Together block) is_loose self e)
      (bisimilar_back s (loose s (together block)) shape (Together block) is_loose (stable_bisimulation s block st) (together_sym block) (together_trans block) self e)
      (candidates_of st.partition (of_path e) h)

  -- a branching query through one that is stable both ways
  both_exact : StableBoth s v.block_of → (q : Branch) → AreOfBlocks v.block_of (IsQueryAnswer (shape_of_view g.seen v) (of_branch q)) nodes → AreQueryAnswers s (of_branch q) nodes
  both_exact st q h =
      let shape = is_shape g is_graph in
      let block = v.block_of in
      let self = same_block s block st.stable.partition in
      let is_loose = blocks_loose s shape block (Together block) (agrees_self s block st.stable.partition) in
      let same = stable_follows s block st in
      query_answers s (together block) (of_branch q) nodes
      (branch_there s (loose s (together block)) shape (Together block) is_loose self same (together_sym block) (together_trans block) q)
      (branch_back s (loose s (together block)) shape (Together block) is_loose self same (together_sym block) (together_trans block) q)
      (candidates_of st.stable.partition (of_branch q) h)

-- where the index is exact for the query, and the view is that of the index
pub exact_answers : (g : Graph) → IsGraph g → (v : View) (via : Via) → FitsVia via g v → (q : Query) → IsExact via q → (nodes : List ℕ)
    → AreOfBlocks v.block_of (IsQueryAnswer (shape_of_view g.seen v) q) nodes → AreQueryAnswers (shape_of g) q nodes
exact_answers g is_graph v Data f q x nodes h = absurd x
exact_answers g is_graph v (A i) f (of_path e) x nodes h = level_exact g is_graph v f.view nodes sides.Parents i f.agrees e x h
exact_answers g is_graph v (A i) f (of_branch q) x nodes h = absurd x
exact_answers g is_graph v One f (of_path e) x nodes h = stable_exact g is_graph v f.view nodes f.index.stable e h
exact_answers g is_graph v One f (of_branch q) x nodes h = absurd x
exact_answers g is_graph v Fb f (of_path e) x nodes h =
    stable_exact g is_graph v f.view nodes (fb_stable (shape_of g) v.block_of (is_shape g is_graph) f.agrees).stable e h
exact_answers g is_graph v (B i) f (of_path e) x nodes h = level_exact g is_graph v f.view nodes sides.Both i f.agrees e x h
exact_answers g is_graph v (B i) f (of_branch q) x nodes h = shallow_exact g is_graph v f.view nodes i f.agrees q x h
exact_answers g is_graph v Fb f (of_branch q) x nodes h = both_exact g is_graph v f.view nodes (fb_stable (shape_of g) v.block_of (is_shape g is_graph) f.agrees) q h
