-- Where nodes are related by levels so that labels are equal, and each edge at the one has one at the other beside it
-- a level down, both meet the same steps whose depth the level allows.
use Rattle.std.proofs.Common.{◌≡◌, ℕ, suc, inl, inr, ap, refl, sym, ◌∙◌, subst, IsTrue, Option, Some}
use Rattle.graph_spec.specs.Shapes.{Shape}
use Rattle.path_spec.specs.Longest.{greater}
use Rattle.branch_spec.specs.Trees.{Axis, child, below, parent, above, Step, step, Preds, none, pred, Or, one, or, And, lone, and, Cond, fails, group, rel, always, Chain, no_step, go, Branch, first_step}
use Rattle.branch_spec.specs.BranchAnswers.{Along, Meets, HoldAll, HoldsOr, HoldsAnd, HoldsCond, Goes, Ends, IsBranchAnswer}
use Rattle.branch_spec.specs.Depths.{further, step_depth, preds_depth, or_depth, and_depth, cond_depth, chain_depth, depth_from, depth, IsUpTo}
use Rattle.branch_spec.proofs.AnswersAgree.{passes}
use Rattle.branch_spec.proofs.DepthLaws.{IsOneUp, both_up_to, further_up}

-- each edge of the one has one of the other beside it, whose other end is related a level down
pub record FollowsBy (s t : Shape) (R : ℕ → ℕ → ℕ → Type 0) : Type 0 where
  pub labels : (i u x : ℕ) → R i u x → s.label u ≡ t.label x
  pub from : (i u x v : ℕ) → R (suc i) u x → IsTrue (s.edge u v) → (y : ℕ) × IsTrue (t.edge x y) × R i v y
  pub onto : (i u x v : ℕ) → R (suc i) u x → IsTrue (s.edge v u) → (y : ℕ) × IsTrue (t.edge y x) × R i v y

pub record AlikeBy (s t : Shape) (R : ℕ → ℕ → ℕ → Type 0) : Type 0 where
  pub there : FollowsBy s t R
  pub back : FollowsBy t s (λ i x u. R i u x)

turned : (s t : Shape) (R : ℕ → ℕ → ℕ → Type 0) → AlikeBy s t R → AlikeBy t s (λ i x u. R i u x)
turned s t R a = record { there = a.back; back = a.there }

-- a node beside the one to which an axis leads, at a level that allows the depth from there
record IsLed (t : Shape) (R : ℕ → ℕ → ℕ → Type 0) (a : Axis) (d : Option ℕ) (x v : ℕ) : Type 0 where
  node : ℕ
  level : ℕ
  along : Along t.edge a x node
  related : R level v node
  within : IsUpTo d level

-- the same where the axis leads from it
record IsLedFrom (t : Shape) (R : ℕ → ℕ → ℕ → Type 0) (a : Axis) (d : Option ℕ) (x v : ℕ) : Type 0 where
  node : ℕ
  level : ℕ
  along : Along t.edge a node x
  related : R level v node
  within : IsUpTo d level

along_axis : (s t : Shape) (R : ℕ → ℕ → ℕ → Type 0) → FollowsBy s t R → (a : Axis) (d : Option ℕ) (i u x v : ℕ) → IsUpTo (further a d) i → R i u x
    → Along s.edge a u v → IsLed t R a d x v
along_axis s t R f child d i u x v w r h =
    let o = further_up child d i w in
    let e = f.from o.level u x v (subst (λ j. R j u x) o.is r) h in
    record { node = e.0; level = o.level; along = e.1; related = e.2; within = o.within }
along_axis s t R f below d i u x v w r h = absurd w
along_axis s t R f parent d i u x v w r h =
    let o = further_up parent d i w in
    let e = f.onto o.level u x v (subst (λ j. R j u x) o.is r) h in
    record { node = e.0; level = o.level; along = e.1; related = e.2; within = o.within }
along_axis s t R f above d i u x v w r h = absurd w

along_back : (s t : Shape) (R : ℕ → ℕ → ℕ → Type 0) → FollowsBy s t R → (a : Axis) (d : Option ℕ) (i u x v : ℕ) → IsUpTo (further a d) i → R i u x
    → Along s.edge a v u → IsLedFrom t R a d x v
along_back s t R f child d i u x v w r h =
    let o = further_up child d i w in
    let e = f.onto o.level u x v (subst (λ j. R j u x) o.is r) h in
    record { node = e.0; level = o.level; along = e.1; related = e.2; within = o.within }
along_back s t R f below d i u x v w r h = absurd w
along_back s t R f parent d i u x v w r h =
    let o = further_up parent d i w in
    let e = f.from o.level u x v (subst (λ j. R j u x) o.is r) h in
    record { node = e.0; level = o.level; along = e.1; related = e.2; within = o.within }
along_back s t R f above d i u x v w r h = absurd w

mutual
  meets : (p : Step) (s t : Shape) (R : ℕ → ℕ → ℕ → Type 0) → AlikeBy s t R → (i u x : ℕ) → IsUpTo (step_depth p) i → R i u x → Meets s p u → Meets t p x
  meets (step p ps) s t R a i u x w r h = (passes s t p u x (a.there.labels i u x r) h.0, hold_all ps s t R a i u x w r h.1)

  hold_all : (ps : Preds) (s t : Shape) (R : ℕ → ℕ → ℕ → Type 0) → AlikeBy s t R → (i u x : ℕ) → IsUpTo (preds_depth ps) i → R i u x → HoldAll s ps u → HoldAll t ps x
  hold_all none s t R a i u x w r h = tt
  hold_all (pred o ps) s t R a i u x w r h =
      let both = both_up_to (or_depth o) (preds_depth ps) i w in
      (holds_or o s t R a i u x both.0 r h.0, hold_all ps s t R a i u x both.1 r h.1)

  holds_or : (o : Or) (s t : Shape) (R : ℕ → ℕ → ℕ → Type 0) → AlikeBy s t R → (i u x : ℕ) → IsUpTo (or_depth o) i → R i u x → HoldsOr s o u → HoldsOr t o x
  holds_or (one b) s t R a i u x w r h = holds_and b s t R a i u x w r h
  holds_or (or b o) s t R a i u x w r (inl h) = inl (holds_and b s t R a i u x (both_up_to (and_depth b) (or_depth o) i w).0 r h)
  holds_or (or b o) s t R a i u x w r (inr h) = inr (holds_or o s t R a i u x (both_up_to (and_depth b) (or_depth o) i w).1 r h)

  holds_and : (b : And) (s t : Shape) (R : ℕ → ℕ → ℕ → Type 0) → AlikeBy s t R → (i u x : ℕ) → IsUpTo (and_depth b) i → R i u x → HoldsAnd s b u → HoldsAnd t b x
  holds_and (lone c) s t R a i u x w r h = holds_cond c s t R a i u x w r h
  holds_and (and c b) s t R a i u x w r h =
      let both = both_up_to (cond_depth c) (and_depth b) i w in
      (holds_cond c s t R a i u x both.0 r h.0, holds_and b s t R a i u x both.1 r h.1)

  holds_cond : (c : Cond) (s t : Shape) (R : ℕ → ℕ → ℕ → Type 0) → AlikeBy s t R → (i u x : ℕ) → IsUpTo (cond_depth c) i → R i u x → HoldsCond s c u → HoldsCond t c x
  holds_cond (fails o) s t R a i u x w r h = λ k. h (holds_or o t s (λ j y v. R j v y) (turned s t R a) i x u w r k)
  holds_cond (group o) s t R a i u x w r h = holds_or o s t R a i u x w r h
  holds_cond (rel b p ch) s t R a i u x w r h =
      let l = along_axis s t R a.there b (greater (step_depth p) (chain_depth ch)) i u x h.0 w r h.1 in
      let both = both_up_to (step_depth p) (chain_depth ch) l.level l.within in
      (l.node, l.along, meets p s t R a l.level h.0 l.node both.0 l.related h.2, goes ch s t R a l.level h.0 l.node both.1 l.related h.3)
  holds_cond always s t R a i u x w r h = tt

  goes : (ch : Chain) (s t : Shape) (R : ℕ → ℕ → ℕ → Type 0) → AlikeBy s t R → (i u x : ℕ) → IsUpTo (chain_depth ch) i → R i u x → Goes s ch u → Goes t ch x
  goes no_step s t R a i u x w r h = tt
  goes (go b p ch) s t R a i u x w r h =
      let l = along_axis s t R a.there b (greater (step_depth p) (chain_depth ch)) i u x h.0 w r h.1 in
      let both = both_up_to (step_depth p) (chain_depth ch) l.level l.within in
      (l.node, l.along, meets p s t R a l.level h.0 l.node both.0 l.related h.2, goes ch s t R a l.level h.0 l.node both.1 l.related h.3)

-- the chain leads to y from a node beside u, at a level that allows the depth of what comes before
record IsBegun (t : Shape) (R : ℕ → ℕ → ℕ → Type 0) (ch : Chain) (d : Option ℕ) (u y : ℕ) : Type 0 where
  node : ℕ
  level : ℕ
  ends : Ends t ch node y
  related : R level u node
  within : IsUpTo d level

begun : (ch : Chain) (s t : Shape) (R : ℕ → ℕ → ℕ → Type 0) → AlikeBy s t R → (d : Option ℕ) (i u v y : ℕ) → IsUpTo (depth_from d ch) i → R i v y → Ends s ch u v
    → IsBegun t R ch d u y
begun no_step s t R a d i u v y w r h = record { node = y; level = i; ends = refl; related = subst (λ z. R i z y) (sym h) r; within = w }
begun (go b p ch) s t R a d i u v y w r h =
    let k = begun ch s t R a (greater (further b d) (step_depth p)) i h.0 v y w r h.3 in
    let both = both_up_to (further b d) (step_depth p) k.level k.within in
    let l = along_back s t R a.there b d k.level h.0 k.node u both.0 k.related h.1 in
    record {
      node = l.node;
      level = l.level;
      ends = (k.node, l.along, meets p s t R a k.level h.0 k.node both.1 k.related h.2, k.ends);
      related = l.related;
      within = l.within;
    }

-- nodes that are related at the depth of a query answer it alike
pub alike_by : (s t : Shape) (R : ℕ → ℕ → ℕ → Type 0) → AlikeBy s t R → (q : Branch) (i v y : ℕ) → IsUpTo (depth q) i → R i v y → IsBranchAnswer s q v → IsBranchAnswer t q y
alike_by s t R a (first_step p ch) i v y w r h =
    let k = begun ch s t R a (step_depth p) i h.0 v y w r h.2 in
    (k.node, meets p s t R a k.level h.0 k.node k.within k.related h.1, k.ends)
