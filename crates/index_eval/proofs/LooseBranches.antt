-- Branching queries over the loose graph of a relation.
use Rattle.std.proofs.Common.{◌≡◌, ℕ, ap, sym, ◌∙◌, subst, IsTrue}
use Rattle.std.specs.Prelude.{is_some}
use Rattle.graph_spec.specs.Shapes.{Shape, IsNode, IsShape}
use Rattle.branch_spec.specs.Trees.{Test, label, any, Step, step, Chain, no_step, go, Branch, first_step}
use Rattle.branch_spec.specs.BranchAnswers.{Passes, Meets, Ends, IsBranchAnswer}
use Rattle.branch_spec.specs.Relaxed.{relax}
use Rattle.branch_spec.proofs.RelaxedAnswers.{relaxed}
use Rattle.branch_spec.proofs.AnswersAgree.{Follows, alike}
use Rattle.index_eval.proofs.LooseWalks.{IsLoose}

passing_node : (s : Shape) (t : Test) (v : ℕ) → Passes s t v → IsNode s v
passing_node s (label x) v h = ap is_some h
passing_node s any v h = h

meeting_node : (s : Shape) (p : Step) (v : ℕ) → Meets s p v → IsNode s v
meeting_node s (step t ps) v h = passing_node s t v h.0

ending_node : (s : Shape) (ch : Chain) (u v : ℕ) → IsNode s u → Ends s ch u v → IsNode s v
ending_node s no_step u v n h = subst (IsNode s) h n
ending_node s (go a p ch) u v n h = ending_node s ch h.0 v (meeting_node s p h.0 h.2) h.3

-- an answer is a node
pub branch_node : (s : Shape) (q : Branch) (v : ℕ) → IsBranchAnswer s q v → IsNode s v
branch_node s (first_step p ch) v h = ending_node s ch h.0 v (meeting_node s p h.0 h.1) h.2

module _ (s t : Shape) (shape : IsShape s) (R : ℕ → ℕ → Type 0) (is_loose : IsLoose s R t) (self : (n : ℕ) → IsNode s n → R n n) where
  edges_kept : (u v : ℕ) → IsTrue (s.edge u v) → IsTrue (t.edge u v)
  edges_kept u v e =
      let nu = shape.from u v e in
      let nv = shape.onto u v e in
      is_loose.onto u v u v nu nv (self u nu) (self v nv) e

  -- where each node is related to itself, each answer is one of the relaxed form over the loose graph
  pub relaxed_branch : (q : Branch) (v : ℕ) → IsBranchAnswer s q v → IsBranchAnswer t (relax q) v
  relaxed_branch q v h = relaxed s t (λ n. n) (record { labels = λ n node. is_loose.labels n; edges = edges_kept }) q v h

  -- where related nodes have related parents and children, both graphs have the same answers
  module _ (same : Follows s s R) (back : (u v : ℕ) → R u v → R v u) (on : (u v w : ℕ) → R u v → R v w → R u w) where
    node_label : (u x : ℕ) → R u x → t.label x ≡ s.label u
    node_label u x r = is_loose.labels x ∙ sym (same.labels u x r)

    node_moved : (u x : ℕ) → R u x → IsNode s u → IsNode s x
    node_moved u x r n = subst (λ o. IsTrue (is_some o)) (same.labels u x r) n

    onto_loose : Follows s t R
    onto_loose = record {
      labels = λ u x r. sym (node_label u x r);
      from = λ u x v r e.
          let nv = shape.onto u v e in
          (v, is_loose.onto x v u v (node_moved u x r (shape.from u v e)) nv (back u x r) (self v nv) e, self v nv);
      onto = λ u x v r e.
          let nv = shape.from v u e in
          (v, is_loose.onto v x v u nv (node_moved u x r (shape.onto v u e)) (self v nv) (back u x r) e, self v nv);
    }

    from_loose : Follows t s (λ x u. R u x)
    from_loose = record {
      labels = λ x u r. node_label u x r;
      from = λ x u y r e.
          let d = is_loose.from x y e in
          let c = same.from d.0 u d.1 (back u d.0 (on u x d.0 r d.2)) d.4 in
          (c.0, c.1, on c.0 d.1 y (back d.1 c.0 c.2) (back y d.1 d.3));
      onto = λ x u y r e.
          let d = is_loose.from y x e in
          let c = same.onto d.1 u d.0 (back u d.1 (on u x d.1 r d.3)) d.4 in
          (c.0, c.1, on c.0 d.0 y (back d.0 c.0 c.2) (back y d.0 d.2));
    }

    pub branch_there : (q : Branch) (v : ℕ) → IsBranchAnswer s q v → IsBranchAnswer t q v
    branch_there q v h = alike s t R (record { there = onto_loose; back = from_loose }) q v v (self v (branch_node s q v h)) h

    pub branch_back : (q : Branch) (v : ℕ) → IsBranchAnswer t q v → IsBranchAnswer s q v
    branch_back q v h =
        let node = subst (λ o. IsTrue (is_some o)) (is_loose.labels v) (branch_node t q v h) in
        alike t s (λ x u. R u x) (record { there = from_loose; back = onto_loose }) q v v (self v node) h
