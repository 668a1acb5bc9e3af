-- Branching queries over the loose graph of a level by parents and children.
use Rattle.std.proofs.Common.{◌≡◌, ℕ, suc, ◌≤◌, sym, ◌∙◌, subst, IsTrue, arith}
use Rattle.std.specs.Prelude.{is_some}
use Rattle.graph_spec.specs.Shapes.{Shape, IsNode, IsShape}
use Rattle.bisim_spec.specs.Bisimilarity.{Both}
use Rattle.bisim_spec.proofs.Bisimilar.{label_same, both_sym, both_trans, both_self, both_label}
use Rattle.bisim_spec.proofs.Settled.{both_family, falls_to}
use Rattle.branch_spec.specs.Trees.{Branch}
use Rattle.branch_spec.specs.BranchAnswers.{IsBranchAnswer}
use Rattle.branch_spec.specs.Depths.{depth, IsUpTo}
use Rattle.branch_spec.proofs.AlikeBy.{FollowsBy, alike_by}
use Rattle.index_eval.proofs.LooseWalks.{IsLoose}
use Rattle.index_eval.proofs.LooseBranches.{branch_node}

module _ (s t : Shape) (shape : IsShape s) (n : ℕ) (is_loose : IsLoose s (Both s n) t) where
  down : (j u v : ℕ) → j ≤ n → Both s n u v → Both s j u v
  down j u v h b = falls_to s (Both s) (both_family s shape) j n h u v b

  -- bisimilar to a level that the loose graph keeps
  abbrev Within : ℕ → ℕ → ℕ → Type 0
  Within j u x = (j ≤ n) × Both s j u x

  edge_kept : (u v : ℕ) → IsTrue (s.edge u v) → IsTrue (t.edge u v)
  edge_kept u v e =
      let nu = shape.from u v e in
      let nv = shape.onto u v e in
      is_loose.onto u v u v nu nv (both_self s shape n u nu) (both_self s shape n v nv) e

  same_label : (j u x : ℕ) → Both s j u x → s.label u ≡ t.label x
  same_label j u x r = label_same s u x (both_label s j u x r) ∙ sym (is_loose.labels x)

  onto_loose : FollowsBy s t Within
  onto_loose = record {
    labels = λ j u x r. same_label j u x r.1;
    from = λ j u x v r e. let y = r.1.2.there v e in (y.0, edge_kept x y.0 y.1, (let h = r.0 in omega (arith, h), y.2));
    onto = λ j u x v r e. let y = r.1.1.there v e in (y.0, edge_kept y.0 x y.1, (let h = r.0 in omega (arith, h), y.2));
  }

  from_loose : FollowsBy t s (λ j x u. Within j u x)
  from_loose = record {
    labels = λ j x u r. sym (same_label j u x r.1);
    from = λ j x u y r e.
        let h = r.0 in
        let le : j ≤ n = omega (arith, h) in
        let d = is_loose.from x y e in
        let k = both_trans s (suc j) u x d.0 r.1 (down (suc j) x d.0 h d.2) in
        let v = k.2.back d.1 d.4 in
        (v.0, v.1, (le, both_sym s j y v.0 (both_trans s j y d.1 v.0 (down j y d.1 le d.3) v.2)));
    onto = λ j x u y r e.
        let h = r.0 in
        let le : j ≤ n = omega (arith, h) in
        let d = is_loose.from y x e in
        let k = both_trans s (suc j) u x d.1 r.1 (down (suc j) x d.1 h d.3) in
        let v = k.1.back d.0 d.4 in
        (v.0, v.1, (le, both_sym s j y v.0 (both_trans s j y d.0 v.0 (down j y d.0 le d.2) v.2)));
  }

  -- a query whose depth is at most the level has just the answers of the graph
  pub shallow_there : (q : Branch) → IsUpTo (depth q) n → (v : ℕ) → IsBranchAnswer s q v → IsBranchAnswer t q v
  shallow_there q w v h =
      alike_by s t Within (record { there = onto_loose; back = from_loose }) q n v v w (omega arith, both_self s shape n v (branch_node s q v h)) h

  pub shallow_back : (q : Branch) → IsUpTo (depth q) n → (v : ℕ) → IsBranchAnswer t q v → IsBranchAnswer s q v
  shallow_back q w v h =
      let node = subst (λ o. IsTrue (is_some o)) (is_loose.labels v) (branch_node t q v h) in
      alike_by t s (λ j x u. Within j u x) (record { there = from_loose; back = onto_loose }) q n v v w (omega arith, both_self s shape n v node) h
