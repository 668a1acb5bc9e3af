-- Sets of nodes for the parts of a query.
use Rattle.std.proofs.Common.{◌≡◌, ◌↔◌, ℕ, ◌+◌, ◌-◌, ◌<◌, ◌≤◌, ◌⊎◌, inl, inr, List, [], ◌∷◌, ◌++◌, length, Bool, refl, sym, ap, ◌∙◌, subst, arith, Option, Some, None, IsTrue, take, drop, get_or}
use Rattle.std.specs.Prelude.{is_some, IsSome, option_and_then}
use Rattle.std.proofs.lemmas.List.{take_more, drop_more}
use Rattle.graph_spec.specs.Members.{has}
use Rattle.graph_spec.specs.Shapes.{Shape, IsNode}
use Rattle.branch_spec.specs.Trees as tree
use Rattle.branch_spec.specs.BranchAnswers.{Reaches, direct, further, Along, Passes, Meets, HoldAll, HoldsOr, HoldsAnd, HoldsCond, Goes, Ends}
use Rattle.branch_expr.specs.Axes.{axis_of}
use Rattle.branch_expr.specs.declared.tree.Cond.{Cond}
use Rattle.branch_expr.specs.declared.tree.And.{And}
use Rattle.branch_expr.specs.declared.tree.Hop.{Hop}
use Rattle.branch_expr.specs.QueryTrees.{preds_of, step_of, chain_of, cond_of, and_from, and_of, or_from}
use Rattle.branch_expr.specs.Images.{Keeps}
use Rattle.branch_expr.specs.Sets.{IsSetOf}
use Rattle.branch_expr.specs.Axes.{turned}

module _ (L : ℕ → Option ℕ) where
  pub set_as : (xs : List ℕ) (H K : ℕ → Type 0) → ((v : ℕ) → H v → K v) → ((v : ℕ) → K v → H v) → IsSetOf L xs H → IsSetOf L xs K
  set_as xs H K to from h v = (λ m. let p = (h v).0 m in (p.0, to v p.1), λ p. (h v).1 (p.0, from v p.1))

  set_kept : (a r : List ℕ) (H K : ℕ → Type 0) → IsSetOf L a H → Keeps a r K → IsSetOf L r (λ v. H v × K v)
  set_kept a r H K h k v = (
    λ m. let p = (k v).0 m in let x = (h v).0 p.0 in (x.0, (x.1, p.1)),
    λ p. (k v).1 ((h v).1 (p.0, p.1.0), p.1.1),
  )

  set_either : (a n r : List ℕ) (H K : ℕ → Type 0) → IsSetOf L a H → IsSetOf L n K → ((v : ℕ) → IsTrue (has r v) ↔ (IsTrue (has a v) ⊎ IsTrue (has n v))) → IsSetOf L r (λ v. H v ⊎ K v)
  set_either a n r H K h k e v = (
    λ m. elim ((e v).0 m) [ inl x ↦ (let p = (h v).0 x in (p.0, inl p.1)) | inr y ↦ (let p = (k v).0 y in (p.0, inr p.1)) ],
    λ p. elim p.1 [ inl x ↦ (e v).1 (inl ((h v).1 (p.0, x))) | inr y ↦ (e v).1 (inr ((k v).1 (p.0, y))) ],
  )

keeps_as : (a r : List ℕ) (H K : ℕ → Type 0) → ((v : ℕ) → H v → K v) → ((v : ℕ) → K v → H v) → Keeps a r H → Keeps a r K
keeps_as a r H K to from h v = (λ m. let p = (h v).0 m in (p.0, to v p.1), λ p. (h v).1 (p.0, from v p.1))

keeps_both : (a b r : List ℕ) (H K : ℕ → Type 0) → Keeps a b H → Keeps b r K → Keeps a r (λ v. H v × K v)
keeps_both a b r H K h k v = (
  λ m. let p = (k v).0 m in let q = (h v).0 p.0 in (q.0, (q.1, p.1)),
  λ p. (k v).1 ((h v).1 (p.0, p.1.0), p.1.1),
)

pub along_back : (edge : ℕ → ℕ → Bool) (a : tree.Axis) (u v : ℕ) → Along edge (turned a) u v → Along edge a v u
along_back edge tree.child u v h = h
along_back edge tree.below u v h = h
along_back edge tree.parent u v h = h
along_back edge tree.above u v h = h

pub back_along : (edge : ℕ → ℕ → Bool) (a : tree.Axis) (u v : ℕ) → Along edge a v u → Along edge (turned a) u v
back_along edge tree.child u v h = h
back_along edge tree.below u v h = h
back_along edge tree.parent u v h = h
back_along edge tree.above u v h = h

module _ (L : ℕ → Option ℕ) (edge : ℕ → ℕ → Bool) (ends : (u v : ℕ) → IsTrue (edge u v) → IsSome (L u) × IsSome (L v)) where
  reach_ends : (u v : ℕ) → Reaches edge u v → IsSome (L u) × IsSome (L v)
  reach_ends u v (direct a b e) = ends u v e
  reach_ends u v (further a w b r e) = ((reach_ends u w r).0, (ends w v e).1)

  pub along_ends : (a : tree.Axis) (u v : ℕ) → Along edge a u v → IsSome (L u) × IsSome (L v)
  along_ends tree.child u v h = ends u v h
  along_ends tree.below u v h = reach_ends u v h
  along_ends tree.parent u v h = let e = ends v u h in (e.1, e.0)
  along_ends tree.above u v h = let e = reach_ends v u h in (e.1, e.0)

  -- from where the hop leads on
  pub set_last : (a : tree.Axis) (Step : ℕ → Type 0) (step found : List ℕ) → IsSetOf L step Step
      → ((c : ℕ) → IsTrue (has found c) ↔ ((v : ℕ) × IsTrue (has step v) × Along edge (turned a) v c))
      → IsSetOf L found (λ v. (c : ℕ) × Along edge a v c × Step c × Unit {0})
  set_last a Step step found s f v = (
    λ m.
        let p = (f v).0 m in
        let l = along_back edge a p.0 v p.2 in
        ((along_ends a v p.0 l).0, (p.0, l, ((s p.0).0 p.1).1, tt)),
    λ p.
        let l = p.1.1 in
        (f v).1 (p.1.0, (s p.1.0).1 ((along_ends a v p.1.0 l).1, p.1.2), back_along edge a p.1.0 v l),
  )

  -- from where the hop leads to a member
  pub set_hop : (a : tree.Axis) (Step : ℕ → Type 0) (step behind both found : List ℕ) → IsSetOf L step Step
      → ((n : ℕ) → IsTrue (has both n) ↔ (IsTrue (has step n) × IsTrue (has behind n)))
      → ((c : ℕ) → IsTrue (has found c) ↔ ((v : ℕ) × IsTrue (has both v) × Along edge (turned a) v c))
      → IsSetOf L found (λ v. (c : ℕ) × Along edge a v c × Step c × IsTrue (has behind c))
  set_hop a Step step behind both found s b f v = (
    λ m.
        let p = (f v).0 m in
        let q = (b p.0).0 p.1 in
        let l = along_back edge a p.0 v p.2 in
        ((along_ends a v p.0 l).0, (p.0, l, ((s p.0).0 q.0).1, q.1)),
    λ p.
        let c = p.1.0 in
        (f v).1 (c, (b c).1 ((s c).1 ((along_ends a v c p.1.1).1, p.1.2), p.1.3), back_along edge a c v p.1.1),
  )

module _ (s : Shape) where
  preds_in : (ps : List tree.Or) (o : tree.Or) (v : ℕ) → HoldAll s (preds_of ps) v × HoldsOr s o v → HoldAll s (preds_of (ps ++ o ∷ [])) v
  preds_in [] o v h = (h.1, tt)
  preds_in (p ∷ ps) o v h = (h.0.0, preds_in ps o v (h.0.1, h.1))

  preds_out : (ps : List tree.Or) (o : tree.Or) (v : ℕ) → HoldAll s (preds_of (ps ++ o ∷ [])) v → HoldAll s (preds_of ps) v × HoldsOr s o v
  preds_out [] o v h = (tt, h.0)
  preds_out (p ∷ ps) o v h = let r = preds_out ps o v h.1 in ((h.0, r.0), r.1)

  and_in : (c : tree.Cond) (ds : List Cond) (d : Cond) (v : ℕ) → HoldsAnd s (and_from c ds) v × HoldsCond s (cond_of d) v → HoldsAnd s (and_from c (ds ++ d ∷ [])) v
  and_in c [] d v h = h
  and_in c (e ∷ ds) d v h = (h.0.0, and_in (cond_of e) ds d v (h.0.1, h.1))

  and_out : (c : tree.Cond) (ds : List Cond) (d : Cond) (v : ℕ) → HoldsAnd s (and_from c (ds ++ d ∷ [])) v → HoldsAnd s (and_from c ds) v × HoldsCond s (cond_of d) v
  and_out c [] d v h = h
  and_out c (e ∷ ds) d v h = let r = and_out (cond_of e) ds d v h.1 in ((h.0, r.0), r.1)

  or_in : (a : tree.And) (bs : List And) (b : And) (v : ℕ) → HoldsOr s (or_from a bs) v ⊎ HoldsAnd s (and_of b) v → HoldsOr s (or_from a (bs ++ b ∷ [])) v
  or_in a [] b v (inl h) = inl h
  or_in a [] b v (inr h) = inr h
  or_in a (e ∷ bs) b v (inl (inl h)) = inl h
  or_in a (e ∷ bs) b v (inl (inr h)) = inr (or_in (and_of e) bs b v (inl h))
  or_in a (e ∷ bs) b v (inr h) = inr (or_in (and_of e) bs b v (inr h))

  or_out : (a : tree.And) (bs : List And) (b : And) (v : ℕ) → HoldsOr s (or_from a (bs ++ b ∷ [])) v → HoldsOr s (or_from a bs) v ⊎ HoldsAnd s (and_of b) v
  or_out a [] b v (inl h) = inl h
  or_out a [] b v (inr h) = inr h
  or_out a (e ∷ bs) b v (inl h) = inl (inl h)
  or_out a (e ∷ bs) b v (inr h) = elim (or_out (and_of e) bs b v h) [ inl k ↦ inl (inr k) | inr k ↦ inr k ]

  ends_in : (hs : List Hop) (h : Hop) (u v : ℕ) → ((c : ℕ) × Ends s (chain_of hs) u c × Along s.edge (axis_of h.axis) c v × Meets s (step_of h.step) v) → Ends s (chain_of (hs ++ h ∷ [])) u v
  ends_in [] h u v k = (v, subst (λ x. Along s.edge (axis_of h.axis) x v) (sym k.1) k.2, k.3, refl)
  ends_in (g ∷ hs) h u v k = (k.1.0, k.1.1, k.1.2, ends_in hs h k.1.0 v (k.0, k.1.3, k.2, k.3))

  ends_out : (hs : List Hop) (h : Hop) (u v : ℕ) → Ends s (chain_of (hs ++ h ∷ [])) u v → ((c : ℕ) × Ends s (chain_of hs) u c × Along s.edge (axis_of h.axis) c v × Meets s (step_of h.step) v)
  ends_out [] h u v k = (u, refl, subst (λ x. Along s.edge (axis_of h.axis) u x) k.3 k.1, subst (λ x. Meets s (step_of h.step) x) k.3 k.2)
  ends_out (g ∷ hs) h u v k = let r = ends_out hs h k.0 v k.3 in (r.0, (k.0, k.1, k.2, r.1), r.2, r.3)

taken : {X : Type 0} (xs : List X) (j : ℕ) (x : X) → j < length xs → x ≡ get_or xs j x → take j xs ++ x ∷ [] ≡ take (j + 1) xs
taken xs j x within e = ap (λ y. take j xs ++ y ∷ []) e ∙ sym (take_more xs j x within)

pub drop_back : {X : Type 0} (xs : List X) (j : ℕ) (x : X) → 0 < j → j ≤ length xs → x ≡ get_or xs (j - 1) x → drop (j - 1) xs ≡ x ∷ drop j xs
drop_back xs j x some le e =
    let back : j - 1 + 1 ≡ j = omega arith in
    drop_more xs (j - 1) x (omega arith) ∙ ap (λ y. y ∷ drop (j - 1 + 1) xs) (sym e) ∙ ap (λ n. x ∷ drop n xs) back

pub drop_none : {X : Type 0} (xs : List X) (j : ℕ) → j ≤ 0 → drop j xs ≡ xs
drop_none xs j h = let none : j ≡ 0 = omega arith in ap (λ n. drop n xs) none

pub no_items : {X : Type 0} (xs : List X) → length xs ≡ 0 → [] ≡ xs
no_items [] h = refl
no_items (x ∷ xs) h = absurd (omega arith)

module _ (L : ℕ → Option ℕ) (s : Shape) (ends : (u v : ℕ) → IsTrue (s.edge u v) → IsSome (L u) × IsSome (L v)) where
  pub keeps_and : (c : tree.Cond) (ds : List Cond) (j : ℕ) (d : Cond) → j < length ds → d ≡ get_or ds j d → (a b r : List ℕ) → Keeps a b (HoldsAnd s (and_from c (take j ds)))
      → Keeps b r (HoldsCond s (cond_of d)) → Keeps a r (HoldsAnd s (and_from c (take (j + 1) ds)))
  keeps_and c ds j d within e a b r h k =
      subst (λ y. Keeps a r (HoldsAnd s (and_from c y))) (taken ds j d within e)
      (keeps_as a r (λ v. HoldsAnd s (and_from c (take j ds)) v × HoldsCond s (cond_of d) v) (HoldsAnd s (and_from c (take j ds ++ d ∷ [])))
      (λ v x. and_in s c (take j ds) d v x) (λ v x. and_out s c (take j ds) d v x)
      (keeps_both a b r (HoldsAnd s (and_from c (take j ds))) (HoldsCond s (cond_of d)) h k))

  pub set_and : (c : tree.Cond) (ds : List Cond) (j : ℕ) (d : Cond) → j < length ds → d ≡ get_or ds j d → (a r : List ℕ) → IsSetOf L a (HoldsAnd s (and_from c (take j ds)))
      → Keeps a r (HoldsCond s (cond_of d)) → IsSetOf L r (HoldsAnd s (and_from c (take (j + 1) ds)))
  set_and c ds j d within e a r h k =
      subst (λ y. IsSetOf L r (HoldsAnd s (and_from c y))) (taken ds j d within e)
      (set_as L r (λ v. HoldsAnd s (and_from c (take j ds)) v × HoldsCond s (cond_of d) v) (HoldsAnd s (and_from c (take j ds ++ d ∷ [])))
      (λ v x. and_in s c (take j ds) d v x) (λ v x. and_out s c (take j ds) d v x)
      (set_kept L a r (HoldsAnd s (and_from c (take j ds))) (HoldsCond s (cond_of d)) h k))

  pub set_or : (c : tree.And) (ds : List And) (j : ℕ) (d : And) → j < length ds → d ≡ get_or ds j d → (a n r : List ℕ) → IsSetOf L a (HoldsOr s (or_from c (take j ds)))
      → IsSetOf L n (HoldsAnd s (and_of d)) → ((v : ℕ) → IsTrue (has r v) ↔ (IsTrue (has a v) ⊎ IsTrue (has n v))) → IsSetOf L r (HoldsOr s (or_from c (take (j + 1) ds)))
  set_or c ds j d within e a n r h k i =
      subst (λ y. IsSetOf L r (HoldsOr s (or_from c y))) (taken ds j d within e)
      (set_as L r (λ v. HoldsOr s (or_from c (take j ds)) v ⊎ HoldsAnd s (and_of d) v) (HoldsOr s (or_from c (take j ds ++ d ∷ [])))
      (λ v x. or_in s c (take j ds) d v x) (λ v x. or_out s c (take j ds) d v x)
      (set_either L a n r (HoldsOr s (or_from c (take j ds))) (HoldsAnd s (and_of d)) h k i))

  pub keeps_none : (c : tree.And) (ds : List And) (j : ℕ) (d : And) → j < length ds → d ≡ get_or ds j d → (a b r : List ℕ) → Keeps a b (λ v. HoldsOr s (or_from c (take j ds)) v → ⊥)
      → Keeps b r (λ v. HoldsAnd s (and_of d) v → ⊥) → Keeps a r (λ v. HoldsOr s (or_from c (take (j + 1) ds)) v → ⊥)
  keeps_none c ds j d within e a b r h k =
      subst (λ y. Keeps a r (λ v. HoldsOr s (or_from c y) v → ⊥)) (taken ds j d within e)
      (keeps_as a r (λ v. (HoldsOr s (or_from c (take j ds)) v → ⊥) × (HoldsAnd s (and_of d) v → ⊥)) (λ v. HoldsOr s (or_from c (take j ds ++ d ∷ [])) v → ⊥)
      (λ v x o. elim (or_out s c (take j ds) d v o) [ inl old ↦ x.0 old | inr new ↦ x.1 new ])
      (λ v x. (λ old. x (or_in s c (take j ds) d v (inl old)), λ new. x (or_in s c (take j ds) d v (inr new))))
      (keeps_both a b r (λ v. HoldsOr s (or_from c (take j ds)) v → ⊥) (λ v. HoldsAnd s (and_of d) v → ⊥) h k))

  pub set_preds : (ps : List tree.Or) (j : ℕ) (o : tree.Or) → j < length ps → o ≡ get_or ps j o → (a r : List ℕ) → IsSetOf L a (HoldAll s (preds_of (take j ps)))
      → Keeps a r (HoldsOr s o) → IsSetOf L r (HoldAll s (preds_of (take (j + 1) ps)))
  set_preds ps j o within e a r h k =
      subst (λ y. IsSetOf L r (HoldAll s (preds_of y))) (taken ps j o within e)
      (set_as L r (λ v. HoldAll s (preds_of (take j ps)) v × HoldsOr s o v) (HoldAll s (preds_of (take j ps ++ o ∷ [])))
      (λ v x. preds_in s (take j ps) o v x)
      (λ v x. preds_out s (take j ps) o v x)
      (set_kept L a r (HoldAll s (preds_of (take j ps))) (HoldsOr s o) h k))

  -- to where an axis leads from the nodes whose label passes
  abbrev pub IsLed : tree.Axis → tree.Test → List ℕ → Type 0
  IsLed a t found = (c : ℕ) → IsTrue (has found c) ↔ ((v : ℕ) × Passes s t v × Along s.edge a v c)

  pub set_led : (a : tree.Axis) (t : tree.Test) (met found : List ℕ) → IsSetOf L met (Passes s t)
      → ((c : ℕ) → IsTrue (has found c) ↔ ((v : ℕ) × IsTrue (has met v) × Along s.edge a v c)) → IsLed a t found
  set_led a t met found h image c = (
    λ m. let p = (image c).0 m in (p.0, ((h p.0).0 p.1).1, p.2),
    λ p. (image c).1 (p.0, (h p.0).1 ((along_ends L s.edge ends a p.0 c p.2).0, p.1), p.2),
  )

  pub set_plain : (a : tree.Axis) (t : tree.Test) (ps : List tree.Or) (found : List ℕ) → [] ≡ ps → IsLed (turned a) t found → IsSetOf L found (Goes s (tree.go a (tree.step t (preds_of ps)) tree.no_step))
  set_plain a t ps found none image =
      subst (λ y. IsSetOf L found (Goes s (tree.go a (tree.step t (preds_of y)) tree.no_step))) none
      (λ v. (
        λ m.
            let p = (image v).0 m in
            let l = along_back s.edge a p.0 v p.2 in
            ((along_ends L s.edge ends a v p.0 l).0, (p.0, l, (p.1, tt), tt)),
        λ p. (image v).1 (p.1.0, p.1.2.0, back_along s.edge a p.1.0 v p.1.1),
      ))

  pub spared_plain : (a : tree.Axis) (t : tree.Test) (ps : List tree.Or) (old new : List ℕ) → [] ≡ ps
      → ((c : ℕ) → IsTrue (has new c) ↔ (IsTrue (has old c) × (((v : ℕ) × Passes s t v × Along s.edge (turned a) v c) → ⊥)))
      → Keeps old new (λ v. Goes s (tree.go a (tree.step t (preds_of ps)) tree.no_step) v → ⊥)
  spared_plain a t ps old new none spared =
      subst (λ y. Keeps old new (λ v. Goes s (tree.go a (tree.step t (preds_of y)) tree.no_step) v → ⊥)) none
      (λ v. (
        λ m. let p = (spared v).0 m in (p.0, λ x. p.1 (x.0, x.2.0, back_along s.edge a x.0 v x.1)),
        λ p. (spared v).1 (p.0, λ x. p.1 (x.0, along_back s.edge a x.0 v x.2, (x.1, tt), tt)),
      ))

  pub set_go : (a : tree.Axis) (st : tree.Step) (ch : tree.Chain) (behind r : List ℕ) → IsSetOf L behind (Goes s ch)
      → IsSetOf L r (λ v. (c : ℕ) × Along s.edge a v c × Meets s st c × IsTrue (has behind c)) → IsSetOf L r (Goes s (tree.go a st ch))
  set_go a st ch behind r h k =
      set_as L r (λ v. (c : ℕ) × Along s.edge a v c × Meets s st c × IsTrue (has behind c)) (Goes s (tree.go a st ch))
      (λ v x. (x.0, x.1, x.2, ((h x.0).0 x.3).1))
      (λ v x. (x.0, x.1, x.2, (h x.0).1 ((along_ends L s.edge ends a v x.0 x.1).1, x.3)))
      k

  pub set_query : (st : tree.Step) (hs : List Hop) (j : ℕ) (h : Hop) → j < length hs → h ≡ get_or hs j h → (a reached b r : List ℕ)
      → IsSetOf L a (λ v. (u : ℕ) × Meets s st u × Ends s (chain_of (take j hs)) u v)
      → ((c : ℕ) → IsTrue (has reached c) ↔ ((v : ℕ) × IsTrue (has a v) × Along s.edge (axis_of h.axis) v c))
      → IsSetOf L b (Meets s (step_of h.step))
      → ((n : ℕ) → IsTrue (has r n) ↔ (IsTrue (has b n) × IsTrue (has reached n)))
      → IsSetOf L r (λ v. (u : ℕ) × Meets s st u × Ends s (chain_of (take (j + 1) hs)) u v)
  set_query st hs j h within e a reached b r set image step both v =
      let more = taken hs j h within e in (
        λ m.
            let p = (both v).0 m in
            let here = (step v).0 p.0 in
            let w = (image v).0 p.1 in
            let q = ((set w.0).0 w.1).1 in
            (here.0, (q.0, q.1, subst (λ y. Ends s (chain_of y) q.0 v) more (ends_in s (take j hs) h q.0 v (w.0, q.2, w.2, here.1)))),
        λ p.
            let u = p.1.0 in
            let o = ends_out s (take j hs) h u v (subst (λ y. Ends s (chain_of y) u v) (sym more) p.1.2) in
            (both v).1 ((step v).1 (p.0, o.3), (image v).1 (o.0, (set o.0).1 ((along_ends L s.edge ends (axis_of h.axis) o.0 v o.2).0, (u, p.1.1, o.1)), o.2)),
      )

  module _ (node : (v : ℕ) → IsNode s v → IsSome (L v)) where
    pub meets_node : (st : tree.Step) (v : ℕ) → Meets s st v → IsSome (L v)
    meets_node (tree.step (tree.label t) ps) v h = node v (ap is_some h.0)
    meets_node (tree.step tree.any ps) v h = node v h.0

    pub end_node : (st : tree.Step) (ch : tree.Chain) (u v : ℕ) → Meets s st u → Ends s ch u v → IsSome (L v)
    end_node st tree.no_step u v m h = subst (λ x. IsSome (L x)) h (meets_node st u m)
    end_node st (tree.go a st2 ch) u v m h = end_node st2 ch h.0 v h.2 h.3

pub node_label : (f : ℕ → Option (List ℕ)) (o : Option ℕ) → IsSome (option_and_then f o) → IsSome o
node_label f None h = h
node_label f (Some l) h = refl
