-- Path expressions over the loose graph of a relation.
use Rattle.std.proofs.Common.{◌≡◌, ℕ, suc, ◌+◌, ◌≤◌, List, [], ◌∷◌, length, refl, sym, ◌∙◌, subst, Some, Bool, IsTrue, arith}
use Rattle.std.specs.Prelude.{is_some, ◌&&◌}
use Rattle.std.proofs.lemmas.Bool.{and_parts, and_from}
use Rattle.graph_spec.specs.Shapes.{Shape, IsNode, IsShape}
use Rattle.graph_spec.specs.Walks.{Leads}
use Rattle.path_spec.specs.Trees.{Expr}
use Rattle.path_spec.specs.PathAnswers.{IsAnswer}
use Rattle.bisim_spec.specs.Below.{any_below}
use Rattle.bisim_spec.specs.Bisimilarity.{Bis, IsBisimulation}
use Rattle.bisim_spec.proofs.BelowLaws.{any_get, any_from}
use Rattle.bisim_spec.proofs.Bisimilar.{bis_sym, bis_trans, bis_self, bis_label, label_same}
use Rattle.bisim_spec.proofs.Settled.{bis_family, falls_to}
use Rattle.branch_query.specs.Candidates.{loose, has_edge_between}
use Rattle.index_eval.specs.Exactness.{HasLongestWithin}
use Rattle.index_eval.proofs.MappedWalks.{ends_in_node}

-- t has the nodes and labels of s, and edges just between all that are related to the ends of an edge
pub record IsLoose (s : Shape) (R : ℕ → ℕ → Type 0) (t : Shape) : Type 0 where
  pub labels : (n : ℕ) → t.label n ≡ s.label n
  pub ends : (x y : ℕ) → IsTrue (t.edge x y) → IsNode s x × IsNode s y
  pub from : (x y : ℕ) → IsTrue (t.edge x y) → (x2 : ℕ) × (y2 : ℕ) × R x x2 × R y y2 × IsTrue (s.edge x2 y2)
  pub onto : (x y x2 y2 : ℕ) → IsNode s x → IsNode s y → R x x2 → R y y2 → IsTrue (s.edge x2 y2) → IsTrue (t.edge x y)

-- the loose graph of a test is that of a relation which the test decides between nodes
pub loose_is : (s : Shape) → IsShape s → (r : ℕ → ℕ → Bool) (R : ℕ → ℕ → Type 0) → ((u v : ℕ) → IsTrue (r u v) → R u v)
    → ((u v : ℕ) → IsNode s u → IsNode s v → R u v → IsTrue (r u v)) → IsLoose s R (loose s r)
loose_is s shape r R get put = record { labels = λ n. refl; ends = λ x y e. ((parts x y e).0, (parts x y e).1); from = λ x y e. between x y (parts x y e).2; onto = onto }
  where
    parts : (x y : ℕ) → IsTrue ((loose s r).edge x y) → IsNode s x × IsNode s y × IsTrue (has_edge_between s r x y)
    parts x y e =
        let a = and_parts (is_some (s.label x)) (is_some (s.label y) && has_edge_between s r x y) e in
        let b = and_parts (is_some (s.label y)) (has_edge_between s r x y) a.1 in
        (a.0, b.0, b.1)

    between : (x y : ℕ) → IsTrue (has_edge_between s r x y) → (x2 : ℕ) × (y2 : ℕ) × R x x2 × R y y2 × IsTrue (s.edge x2 y2)
    between x y e =
        let p = any_get s.size (λ p. r x p && any_below s.size (λ q. r y q && s.edge p q)) e in
        let a = and_parts (r x p.0) (any_below s.size (λ q. r y q && s.edge p.0 q)) p.2 in
        let q = any_get s.size (λ q. r y q && s.edge p.0 q) a.1 in
        let b = and_parts (r y q.0) (s.edge p.0 q.0) q.2 in
        (p.0, q.0, get x p.0 a.0, get y q.0 b.0, b.1)

    onto : (x y x2 y2 : ℕ) → IsNode s x → IsNode s y → R x x2 → R y y2 → IsTrue (s.edge x2 y2) → IsTrue ((loose s r).edge x y)
    onto x y x2 y2 nx ny rx ry e =
        let nx2 = shape.from x2 y2 e in
        let ny2 = shape.onto x2 y2 e in
        let inner = any_from s.size (λ q. r y q && s.edge x2 q) y2 (shape.below y2 ny2) (and_from (r y y2) (s.edge x2 y2) (put y y2 ny ny2 ry) e) in
        let outer = any_from s.size (λ p. r x p && any_below s.size (λ q. r y q && s.edge p q)) x2 (shape.below x2 nx2)
        (and_from (r x x2) (any_below s.size (λ q. r y q && s.edge x2 q)) (put x x2 nx nx2 rx) inner) in
        and_from (is_some (s.label x)) (is_some (s.label y) && has_edge_between s r x y) nx (and_from (is_some (s.label y)) (has_edge_between s r x y) ny outer)

module _ (s t : Shape) (shape : IsShape s) where
  -- where each node is related to itself, each answer is one over the loose graph
  module _ (R : ℕ → ℕ → Type 0) (is_loose : IsLoose s R t) (self : (n : ℕ) → IsNode s n → R n n) where
    leads_loose : (u : ℕ) (w : List (List ℕ)) (v : ℕ) → Leads s u w v → Leads t u w v
    leads_loose u [] v h = absurd h
    leads_loose u (r ∷ []) v h = (is_loose.labels u ∙ h.0, h.1)
    leads_loose u (r ∷ q ∷ ts) v h =
        let nu = shape.from u h.1 h.2 in
        let nw = shape.onto u h.1 h.2 in
        (is_loose.labels u ∙ h.0, h.1, is_loose.onto u h.1 u h.1 nu nw (self u nu) (self h.1 nw) h.2, leads_loose h.1 (q ∷ ts) v h.3)

    pub path_kept : (e : Expr) (v : ℕ) → IsAnswer s e v → IsAnswer t e v
    path_kept e v (w, m, u, h) = (w, m, u, leads_loose u w v h)

  -- over the loose graph of a relation within a level, a walk of no more labels than the level allows has one of the graph
  -- beside it
  module _ (i : ℕ) (R : ℕ → ℕ → Type 0) (is_loose : IsLoose s R t) (bisimilar : (u v : ℕ) → R u v → Bis s i u v) where
    bis_down : (j : ℕ) → j ≤ i → (u v : ℕ) → R u v → Bis s j u v
    bis_down j h u v r = falls_to s (Bis s) (bis_family s shape) j i h u v (bisimilar u v r)

    walk_back : (r : List ℕ) (ts : List (List ℕ)) (k x y v : ℕ) → k + length ts ≤ i → Leads t x (r ∷ ts) y → Bis s (k + length ts) y v
        → (u : ℕ) × Leads s u (r ∷ ts) v × Bis s k u x
    walk_back r [] k x y v le h b =
        let at_y : s.label y ≡ Some r = sym (is_loose.labels y) ∙ subst (λ z. t.label z ≡ Some r) h.1 h.0 in
        let b2 : Bis s k y v = subst (λ n. Bis s n y v) (omega arith) b in
        (v, (sym (label_same s y v (bis_label s k y v b2)) ∙ at_y, refl), bis_sym s k x v (subst (λ z. Bis s k z v) (sym h.1) b2))
    walk_back r (q ∷ ts) k x y v le h b =
        let c = h.1 in
        let i2 = walk_back q ts (suc k) c y v (omega arith) h.3 (subst (λ n. Bis s n y v) (omega arith) b) in
        let e = is_loose.from x c h.2 in
        let here = bis_trans s (suc k) i2.0 c e.1 i2.2 (bis_down (suc k) (omega arith) c e.1 e.3) in
        let p = here.1.back e.0 e.4 in
        let to_x : Bis s k p.0 x = bis_trans s k p.0 e.0 x (bis_sym s k e.0 p.0 p.2) (bis_sym s k x e.0 (bis_down k (omega arith) x e.0 e.2)) in
        (p.0, (label_same s p.0 x (bis_label s k p.0 x to_x) ∙ (sym (is_loose.labels x) ∙ h.0), i2.0, p.1, i2.1), to_x)

    -- so an expression without longer words has just the answers of the graph
    pub level_back : (e : Expr) → HasLongestWithin e (i + 1) → (v : ℕ) → IsAnswer t e v → IsAnswer s e v
    level_back e within v ([], m, x, h) = absurd h
    level_back e within v (r ∷ ts, m, x, h) =
        let bound : length (r ∷ ts) ≤ i + 1 = (let most : length (r ∷ ts) ≤ within.0 = within.1.1 (r ∷ ts) m in let low = within.2 in omega (arith, most, low)) in
        let node = subst (λ o. IsTrue (is_some o)) (is_loose.labels v) (ends_in_node t x (r ∷ ts) v h) in
        let u = walk_back r ts 0 x v v (omega arith) h (bis_self s shape (0 + length ts) v node) in
        (r ∷ ts, m, u.0, u.1)

  -- over that of a bisimulation which is one both ways, each walk has
  module _ (R : ℕ → ℕ → Type 0) (is_loose : IsLoose s R t) (bis : IsBisimulation s R) (back : (u v : ℕ) → R u v → R v u) (on : (u v w : ℕ) → R u v → R v w → R u w)
      (self : (n : ℕ) → IsNode s n → R n n) where
    any_walk_back : (x : ℕ) (w : List (List ℕ)) (y v : ℕ) → Leads t x w y → R y v → (u : ℕ) × Leads s u w v × R u x
    any_walk_back x [] y v h b = absurd h
    any_walk_back x (r ∷ []) y v h b =
        let at_y : s.label y ≡ Some r = sym (is_loose.labels y) ∙ subst (λ z. t.label z ≡ Some r) h.1 h.0 in
        (v, (sym (label_same s y v (bis.label y v b)) ∙ at_y, refl), back x v (subst (λ z. R z v) (sym h.1) b))
    any_walk_back x (r ∷ q ∷ ts) y v h b =
        let c = h.1 in
        let i2 = any_walk_back c (q ∷ ts) y v h.3 b in
        let e = is_loose.from x c h.2 in
        let p = bis.back i2.0 e.1 e.0 (on i2.0 c e.1 i2.2 e.3) e.4 in
        let to_x = on p.0 e.0 x p.2 (back x e.0 e.2) in
        (p.0, (label_same s p.0 x (bis.label p.0 x to_x) ∙ (sym (is_loose.labels x) ∙ h.0), i2.0, p.1, i2.1), to_x)

    pub bisimilar_back : (e : Expr) (v : ℕ) → IsAnswer t e v → IsAnswer s e v
    bisimilar_back e v (w, m, x, h) =
        let node = subst (λ o. IsTrue (is_some o)) (is_loose.labels v) (ends_in_node t x w v h) in
        let u = any_walk_back x w v v h (self v node) in
        (w, m, u.0, u.1)
