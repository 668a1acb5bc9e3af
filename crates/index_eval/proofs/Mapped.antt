-- The answers over an index graph that fits are the candidates: each node is mapped to its block.
use Rattle.std.proofs.Common.{◌≡◌, ℕ, length, ap, sym, ◌∙◌, subst, None, Some, IsTrue, Bool, true≢false, unwrap_or, inl, inr, arith}
use Rattle.std.specs.Prelude.{is_some, slice_get, option_and_then}
use Rattle.std.proofs.lemmas.List.{get_or_past}
use Rattle.graph_spec.specs.Graphs.{Graph, IsGraph}
use Rattle.graph_spec.specs.Shapes.{IsNode, shape_of}
use Rattle.graph_spec.specs.Members.{at}
use Rattle.graph_spec.proofs.GraphLaws.{is_shape}
use Rattle.path_spec.specs.Trees.{Expr}
use Rattle.path_spec.specs.PathAnswers.{IsAnswer}
use Rattle.branch_spec.specs.Trees.{Branch}
use Rattle.branch_spec.specs.BranchAnswers.{IsBranchAnswer}
use Rattle.branch_spec.proofs.AnswersAgree.{AnswersAgree, alike}
use Rattle.bisim_spec.specs.Partitions.{Agrees}
use Rattle.bisim_spec.specs.Supports.{Adjacent}
use Rattle.bisim_spec.specs.IndexGraphs.{View, ViewFits, shape_of_view}
use Rattle.bisim_spec.proofs.Bisimilar.{none_or_some, some_of, is_some_at}
use Rattle.bisim_spec.proofs.EdgeSupports.{view_edges}
use Rattle.branch_query.specs.Candidates.{loose}
use Rattle.index_eval.proofs.LooseWalks.{IsLoose, loose_is}
use Rattle.index_eval.proofs.MappedWalks.{answer_kept, answer_back}
use Rattle.index_eval.proofs.LooseBranches.{branch_node}

-- the block of a node; a number that is no block where it has none
abbrev pub block_or_past : View → ℕ → ℕ
block_or_past v n = unwrap_or (at v.block_of n) (length v.labels)

module _ (g : Graph) (is_graph : IsGraph g) (v : View) (fits : ViewFits g v) (r : ℕ → ℕ → Bool) (agrees : Agrees (shape_of g) v.block_of (λ x y. IsTrue (r x y))) where
  abbrev R : ℕ → ℕ → Type 0
  R x y = IsTrue (r x y)

  is_loose : IsLoose (shape_of g) R (loose (shape_of g) r)
  is_loose = loose_is (shape_of g) (is_shape g is_graph) r R (λ x y h. h) (λ x y nx ny h. h)

  block_is : (n b : ℕ) → at v.block_of n ≡ Some b → block_or_past v n ≡ b
  block_is n b e = ap (λ o. unwrap_or o (length v.labels)) e

  past_is : (n : ℕ) → at v.block_of n ≡ None → block_or_past v n ≡ length v.labels
  past_is n e = ap (λ o. unwrap_or o (length v.labels)) e

  no_label_past : (shape_of_view g.seen v).label (length v.labels) ≡ None
  no_label_past = ap (option_and_then (λ l. slice_get g.seen l)) (get_or_past v.labels (length v.labels) None (omega arith))

  -- no node's block is past the labels
  no_block_past : (n : ℕ) → at v.block_of n ≡ Some (length v.labels) → ⊥
  no_block_past n e =
      let l = fits.labelled n (length v.labels) e in
      let f = get_or_past v.labels (length v.labels) None (omega arith) in
      let k : at v.labels (length v.labels) ≡ Some l.0 = l.2 in
      cc

  node_of : (n b : ℕ) → at v.block_of n ≡ Some b → IsNode (shape_of g) n
  node_of n b e = agrees.partition.only n (is_some_at (at v.block_of n) b e)

  labels : (n : ℕ) → (shape_of_view g.seen v).label (block_or_past v n) ≡ (shape_of g).label n
  labels n = elim (none_or_some (at v.block_of n)) [
    | inl e ↦ ap (shape_of_view g.seen v).label (past_is n e) ∙ no_label_past ∙ sym (gone n e)
    | inr (b, e) ↦
        (let l = fits.labelled n b e in
        ap (shape_of_view g.seen v).label (block_is n b e) ∙ ap (option_and_then (λ l. slice_get g.seen l)) l.2 ∙ l.3 ∙ sym l.4)
  ]
    where
      gone : (n : ℕ) → at v.block_of n ≡ None → (shape_of g).label n ≡ None
      gone n e = elim (none_or_some ((shape_of g).label n)) [
        | inl none ↦ none
        | inr (t, some) ↦ absurd (true≢false (sym (agrees.partition.live n (is_some_at ((shape_of g).label n) t some)) ∙ ap is_some e))
      ]

  edges : (x y : ℕ) → IsTrue ((loose (shape_of g) r).edge x y) → IsTrue ((shape_of_view g.seen v).edge (block_or_past v x) (block_or_past v y))
  edges x y e =
      let ends = is_loose.ends x y e in
      let h = is_loose.from x y e in
      let shape = is_shape g is_graph in
      let tx = agrees.grouped x h.0 ends.0 (shape.from h.0 h.1 h.4) h.2 in
      let ty = agrees.grouped y h.1 ends.1 (shape.onto h.0 h.1 h.4) h.3 in
      let joined : Adjacent (shape_of g) v.block_of tx.0 ty.0 = (h.0, h.1, h.4, tx.2, ty.2) in
      let edge = (view_edges g.seen g v fits tx.0 ty.0).1 joined in
      subst (λ a. IsTrue ((shape_of_view g.seen v).edge a (block_or_past v y))) (sym (block_is x tx.0 tx.1))
      (subst (λ b. IsTrue ((shape_of_view g.seen v).edge tx.0 b)) (sym (block_is y ty.0 ty.1)) edge)

  related_self : (n b : ℕ) → at v.block_of n ≡ Some b → R n n
  related_self n b e = agrees.related n n (b, e, e)

  onto : (n c : ℕ) → IsTrue ((shape_of_view g.seen v).edge c (block_or_past v n)) → (u : ℕ) × IsTrue ((loose (shape_of g) r).edge u n) × (block_or_past v u ≡ c)
  onto n c e = elim (none_or_some (at v.block_of n)) [
    | inl none ↦
        (let j = (view_edges g.seen g v fits c (block_or_past v n)).0 e in
        absurd (no_block_past j.1 (j.4 ∙ ap Some (past_is n none))))
    | inr (b, some) ↦
        (let j = (view_edges g.seen g v fits c (block_or_past v n)).0 e in
        let at_b : at v.block_of j.1 ≡ Some b = j.4 ∙ ap Some (block_is n b some) in
        let edge = is_loose.onto j.0 n j.0 j.1 (node_of j.0 c j.3) (node_of n b some) (related_self j.0 c j.3) (agrees.related n j.1 (b, some, at_b)) j.2 in
        (j.0, edge, block_is j.0 c j.3))
  ]

  -- a node answers over the loose graph exactly where its block does over the index graph
  pub block_answers : (e : Expr) (n : ℕ) → IsAnswer (loose (shape_of g) r) e n → IsAnswer (shape_of_view g.seen v) e (block_or_past v n)
  block_answers e n h = answer_kept (loose (shape_of g) r) (shape_of_view g.seen v) (block_or_past v) labels edges e n h

  pub node_answers : (e : Expr) (n : ℕ) → IsAnswer (shape_of_view g.seen v) e (block_or_past v n) → IsAnswer (loose (shape_of g) r) e n
  node_answers e n h = answer_back (loose (shape_of g) r) (shape_of_view g.seen v) (block_or_past v) labels onto e n h

  -- the node is in the block
  abbrev In : ℕ → ℕ → Type 0
  In n b = at v.block_of n ≡ Some b

  label_in : (n b : ℕ) → In n b → (loose (shape_of g) r).label n ≡ (shape_of_view g.seen v).label b
  label_in n b e = sym (labels n) ∙ ap (shape_of_view g.seen v).label (block_is n b e)

  -- a node has the neighbours over the loose graph that its block has over the index graph
  blocks_alike : AnswersAgree (loose (shape_of g) r) (shape_of_view g.seen v) In
  blocks_alike = record {
    there = record {
      labels = label_in;
      from = λ x a y at_x e.
          let b = some_of (at v.block_of y) (agrees.partition.live y (is_loose.ends x y e).1) in
          (b.0, between x y a b.0 at_x b.1 e, b.1);
      onto = λ x a y at_x e.
          let b = some_of (at v.block_of y) (agrees.partition.live y (is_loose.ends y x e).0) in
          (b.0, between y x b.0 a b.1 at_x e, b.1);
    };
    back = record {
      labels = λ b n e. sym (label_in n b e);
      from = λ a x b at_x e.
          let j = (view_edges g.seen g v fits a b).0 e in
          let edge = is_loose.onto x j.1 j.0 j.1 (node_of x a at_x) (node_of j.1 b j.4) (agrees.related x j.0 (a, at_x, j.3)) (related_self j.1 b j.4) j.2 in
          (j.1, edge, j.4);
      onto = λ a x b at_x e.
          let j = (view_edges g.seen g v fits b a).0 e in
          let edge = is_loose.onto j.0 x j.0 j.1 (node_of j.0 b j.3) (node_of x a at_x) (related_self j.0 b j.3) (agrees.related x j.1 (a, at_x, j.4)) j.2 in
          (j.0, edge, j.3);
    };
  }
    where
      between : (x y a b : ℕ) → In x a → In y b → IsTrue ((loose (shape_of g) r).edge x y) → IsTrue ((shape_of_view g.seen v).edge a b)
      between x y a b at_x at_y e =
          subst (λ c. IsTrue ((shape_of_view g.seen v).edge c b)) (block_is x a at_x)
          (subst (λ c. IsTrue ((shape_of_view g.seen v).edge (block_or_past v x) c)) (block_is y b at_y) (edges x y e))

  -- so it answers a branching query exactly where its block does
  pub block_branches : (q : Branch) (n : ℕ) → IsBranchAnswer (loose (shape_of g) r) q n → IsBranchAnswer (shape_of_view g.seen v) q (block_or_past v n)
  block_branches q n h =
      let b = some_of (at v.block_of n) (agrees.partition.live n (branch_node (loose (shape_of g) r) q n h)) in
      subst (IsBranchAnswer (shape_of_view g.seen v) q) (sym (block_is n b.0 b.1)) (alike (loose (shape_of g) r) (shape_of_view g.seen v) In blocks_alike q n b.0 b.1 h)

  pub node_branches : (q : Branch) (n : ℕ) → IsBranchAnswer (shape_of_view g.seen v) q (block_or_past v n) → IsBranchAnswer (loose (shape_of g) r) q n
  node_branches q n h = elim (none_or_some (at v.block_of n)) [
    | inl none ↦
        (let node = branch_node (shape_of_view g.seen v) q (block_or_past v n) h in
        absurd (true≢false (sym node ∙ ap (λ m. is_some ((shape_of_view g.seen v).label m)) (past_is n none) ∙ ap is_some no_label_past)))
    | inr (b, some) ↦
        (let is : In n (block_or_past v n) = some ∙ ap Some (sym (block_is n b some)) in
        alike (shape_of_view g.seen v) (loose (shape_of g) r) (λ c m. In m c) (record { there = blocks_alike.back; back = blocks_alike.there }) q (block_or_past v n) n is h)
  ]
