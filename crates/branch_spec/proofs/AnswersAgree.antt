-- Where nodes are related so that labels are equal and each edge of the one has one of the other beside it, at both
-- ends, both meet the same.
use Rattle.std.proofs.Common.{◌≡◌, ℕ, inl, inr, ap, refl, sym, ◌∙◌, subst, IsTrue}
use Rattle.std.specs.Prelude.{is_some}
use Rattle.graph_spec.specs.Shapes.{Shape}
use Rattle.branch_spec.specs.Trees.{Axis, child, below, parent, above, Test, label, any, Step, step, Preds, none, pred, Or, one, or, And, lone, and, Cond, fails, group, rel, always, Chain, no_step, go, Branch, first_step}
use Rattle.branch_spec.specs.BranchAnswers.{Reaches, direct, further, Along, Passes, Meets, HoldAll, HoldsOr, HoldsAnd, HoldsCond, Goes, Ends, IsBranchAnswer}

-- each edge of the one has one of the other beside it
pub record Follows (s t : Shape) (R : ℕ → ℕ → Type 0) : Type 0 where
  pub labels : (u x : ℕ) → R u x → s.label u ≡ t.label x
  pub from : (u x v : ℕ) → R u x → IsTrue (s.edge u v) → (y : ℕ) × IsTrue (t.edge x y) × R v y
  pub onto : (u x v : ℕ) → R u x → IsTrue (s.edge v u) → (y : ℕ) × IsTrue (t.edge y x) × R v y

pub record AnswersAgree (s t : Shape) (R : ℕ → ℕ → Type 0) : Type 0 where
  pub there : Follows s t R
  pub back : Follows t s (λ x u. R u x)

turned : (s t : Shape) (R : ℕ → ℕ → Type 0) → AnswersAgree s t R → AnswersAgree t s (λ x u. R u x)
turned s t R a = record { there = a.back; back = a.there }

reached_from : (s t : Shape) (R : ℕ → ℕ → Type 0) → Follows s t R → (u x v : ℕ) → R u x → Reaches s.edge u v → (y : ℕ) × Reaches t.edge x y × R v y
reached_from s t R f u x v r (direct a b e) = let d = f.from u x v r e in (d.0, direct x d.0 d.1, d.2)
reached_from s t R f u x v r (further a w b h e) =
    let i = reached_from s t R f u x w r h in
    let d = f.from w i.0 v i.2 e in
    (d.0, further x i.0 d.0 i.1 d.1, d.2)

reached_onto : (s t : Shape) (R : ℕ → ℕ → Type 0) → Follows s t R → (u x v : ℕ) → R u x → Reaches s.edge v u → (y : ℕ) × Reaches t.edge y x × R v y
reached_onto s t R f u x v r (direct a b e) = let d = f.onto u x v r e in (d.0, direct d.0 x d.1, d.2)
reached_onto s t R f u x v r (further a w b h e) =
    let d = f.onto u x w r e in
    let i = reached_onto s t R f w d.0 v d.2 h in
    (i.0, further i.0 d.0 x i.1 d.1, i.2)

along : (s t : Shape) (R : ℕ → ℕ → Type 0) → Follows s t R → (a : Axis) (u x v : ℕ) → R u x → Along s.edge a u v → (y : ℕ) × Along t.edge a x y × R v y
along s t R f child u x v r h = f.from u x v r h
along s t R f below u x v r h = reached_from s t R f u x v r h
along s t R f parent u x v r h = f.onto u x v r h
along s t R f above u x v r h = reached_onto s t R f u x v r h

along_back : (s t : Shape) (R : ℕ → ℕ → Type 0) → Follows s t R → (a : Axis) (u x v : ℕ) → R u x → Along s.edge a v u → (y : ℕ) × Along t.edge a y x × R v y
along_back s t R f child u x v r h = f.onto u x v r h
along_back s t R f below u x v r h = reached_onto s t R f u x v r h
along_back s t R f parent u x v r h = f.from u x v r h
along_back s t R f above u x v r h = reached_from s t R f u x v r h

-- nodes with one label pass the same tests
pub passes : (s t : Shape) (p : Test) (u x : ℕ) → s.label u ≡ t.label x → Passes s p u → Passes t p x
passes s t (label l) u x e h = sym e ∙ h
passes s t any u x e h = ap is_some (sym e) ∙ h

mutual
  meets : (p : Step) (s t : Shape) (R : ℕ → ℕ → Type 0) → AnswersAgree s t R → (u x : ℕ) → R u x → Meets s p u → Meets t p x
  meets (step p ps) s t R a u x r h = (passes s t p u x (a.there.labels u x r) h.0, hold_all ps s t R a u x r h.1)

  hold_all : (ps : Preds) (s t : Shape) (R : ℕ → ℕ → Type 0) → AnswersAgree s t R → (u x : ℕ) → R u x → HoldAll s ps u → HoldAll t ps x
  hold_all none s t R a u x r h = tt
  hold_all (pred o ps) s t R a u x r h = (holds_or o s t R a u x r h.0, hold_all ps s t R a u x r h.1)

  holds_or : (o : Or) (s t : Shape) (R : ℕ → ℕ → Type 0) → AnswersAgree s t R → (u x : ℕ) → R u x → HoldsOr s o u → HoldsOr t o x
  holds_or (one b) s t R a u x r h = holds_and b s t R a u x r h
  holds_or (or b o) s t R a u x r (inl h) = inl (holds_and b s t R a u x r h)
  holds_or (or b o) s t R a u x r (inr h) = inr (holds_or o s t R a u x r h)

  holds_and : (b : And) (s t : Shape) (R : ℕ → ℕ → Type 0) → AnswersAgree s t R → (u x : ℕ) → R u x → HoldsAnd s b u → HoldsAnd t b x
  holds_and (lone c) s t R a u x r h = holds_cond c s t R a u x r h
  holds_and (and c b) s t R a u x r h = (holds_cond c s t R a u x r h.0, holds_and b s t R a u x r h.1)

  holds_cond : (c : Cond) (s t : Shape) (R : ℕ → ℕ → Type 0) → AnswersAgree s t R → (u x : ℕ) → R u x → HoldsCond s c u → HoldsCond t c x
  holds_cond (fails o) s t R a u x r h = λ k. h (holds_or o t s (λ x u. R u x) (turned s t R a) x u r k)
  holds_cond (group o) s t R a u x r h = holds_or o s t R a u x r h
  holds_cond (rel b p ch) s t R a u x r h =
      let l = along s t R a.there b u x h.0 r h.1 in
      (l.0, l.1, meets p s t R a h.0 l.0 l.2 h.2, goes ch s t R a h.0 l.0 l.2 h.3)
  holds_cond always s t R a u x r h = tt

  goes : (ch : Chain) (s t : Shape) (R : ℕ → ℕ → Type 0) → AnswersAgree s t R → (u x : ℕ) → R u x → Goes s ch u → Goes t ch x
  goes no_step s t R a u x r h = tt
  goes (go b p ch) s t R a u x r h =
      let l = along s t R a.there b u x h.0 r h.1 in
      (l.0, l.1, meets p s t R a h.0 l.0 l.2 h.2, goes ch s t R a h.0 l.0 l.2 h.3)

ends : (ch : Chain) (s t : Shape) (R : ℕ → ℕ → Type 0) → AnswersAgree s t R → (u v y : ℕ) → R v y → Ends s ch u v → (x : ℕ) × Ends t ch x y × R u x
ends no_step s t R a u v y r h = (y, refl, subst (λ z. R z y) (sym h) r)
ends (go b p ch) s t R a u v y r h =
    let i = ends ch s t R a h.0 v y r h.3 in
    let l = along_back s t R a.there b h.0 i.0 u i.2 h.1 in
    (l.0, (i.0, l.1, meets p s t R a h.0 i.0 i.2 h.2, i.1), l.2)

-- related nodes answer the same queries
pub alike : (s t : Shape) (R : ℕ → ℕ → Type 0) → AnswersAgree s t R → (q : Branch) (v y : ℕ) → R v y → IsBranchAnswer s q v → IsBranchAnswer t q y
alike s t R a (first_step p ch) v y r h =
    let e = ends ch s t R a h.0 v y r h.2 in
    (e.0, meets p s t R a h.0 e.0 e.2 h.1, e.1)
