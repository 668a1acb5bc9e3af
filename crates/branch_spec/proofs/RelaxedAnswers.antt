-- Where nodes are mapped so that labels and edges are kept, answers are answers of the relaxed query.
use Rattle.std.proofs.Common.{◌≡◌, ℕ, inl, inr, ap, ◌∙◌, IsTrue}
use Rattle.std.specs.Prelude.{is_some}
use Rattle.graph_spec.specs.Shapes.{Shape, IsNode}
use Rattle.branch_spec.specs.Trees.{Axis, child, below, parent, above, Test, label, any, Step, step, Preds, none, pred, Or, one, or, And, lone, and, Cond, fails, group, rel, always, Chain, no_step, go, Branch, first_step}
use Rattle.branch_spec.specs.BranchAnswers.{Reaches, direct, further, Along, Passes, Meets, HoldAll, HoldsOr, HoldsAnd, HoldsCond, Goes, Ends, IsBranchAnswer}
use Rattle.branch_spec.specs.Relaxed.{relax_step, relax_preds, relax_or, relax_and, relax_cond, relax_chain, relax}

module _ (s t : Shape) (f : ℕ → ℕ) where
  pub record Keeps : Type 0 where
    pub labels : (v : ℕ) → IsNode s v → t.label (f v) ≡ s.label v
    pub edges : (u v : ℕ) → IsTrue (s.edge u v) → IsTrue (t.edge (f u) (f v))

  module _ (keeps : Keeps) where
    reaches : (u v : ℕ) → Reaches s.edge u v → Reaches t.edge (f u) (f v)
    reaches u v (direct a b e) = direct (f u) (f v) (keeps.edges u v e)
    reaches u v (further a w b r e) = further (f u) (f w) (f v) (reaches u w r) (keeps.edges w v e)

    along : (a : Axis) (u v : ℕ) → Along s.edge a u v → Along t.edge a (f u) (f v)
    along child u v h = keeps.edges u v h
    along below u v h = reaches u v h
    along parent u v h = keeps.edges v u h
    along above u v h = reaches v u h

    passes : (p : Test) (v : ℕ) → Passes s p v → Passes t p (f v)
    passes (label x) v h = keeps.labels v (ap is_some h) ∙ h
    passes any v h = ap is_some (keeps.labels v h) ∙ h

    mutual
      meets : (p : Step) (v : ℕ) → Meets s p v → Meets t (relax_step p) (f v)
      meets (step p ps) v h = (passes p v h.0, hold_all ps v h.1)

      hold_all : (ps : Preds) (v : ℕ) → HoldAll s ps v → HoldAll t (relax_preds ps) (f v)
      hold_all none v h = tt
      hold_all (pred o ps) v h = (holds_or o v h.0, hold_all ps v h.1)

      holds_or : (o : Or) (v : ℕ) → HoldsOr s o v → HoldsOr t (relax_or o) (f v)
      holds_or (one a) v h = holds_and a v h
      holds_or (or a o) v (inl h) = inl (holds_and a v h)
      holds_or (or a o) v (inr h) = inr (holds_or o v h)

      holds_and : (a : And) (v : ℕ) → HoldsAnd s a v → HoldsAnd t (relax_and a) (f v)
      holds_and (lone c) v h = holds_cond c v h
      holds_and (and c a) v h = (holds_cond c v h.0, holds_and a v h.1)

      holds_cond : (c : Cond) (v : ℕ) → HoldsCond s c v → HoldsCond t (relax_cond c) (f v)
      holds_cond (fails o) v h = tt
      holds_cond (group o) v h = holds_or o v h
      holds_cond (rel a p ch) v h = (f h.0, along a v h.0 h.1, meets p h.0 h.2, goes ch h.0 h.3)
      holds_cond always v h = tt

      goes : (ch : Chain) (v : ℕ) → Goes s ch v → Goes t (relax_chain ch) (f v)
      goes no_step v h = tt
      goes (go a p ch) v h = (f h.0, along a v h.0 h.1, meets p h.0 h.2, goes ch h.0 h.3)

    ends : (ch : Chain) (u v : ℕ) → Ends s ch u v → Ends t (relax_chain ch) (f u) (f v)
    ends no_step u v h = ap f h
    ends (go a p ch) u v h = (f h.0, along a u h.0 h.1, meets p h.0 h.2, ends ch h.0 v h.3)

    -- each answer is, once mapped, an answer of the relaxed query
    pub relaxed : (q : Branch) (v : ℕ) → IsBranchAnswer s q v → IsBranchAnswer t (relax q) (f v)
    relaxed (first_step p ch) v h = (f h.0, meets p h.0 h.1, ends ch h.0 v h.2)
