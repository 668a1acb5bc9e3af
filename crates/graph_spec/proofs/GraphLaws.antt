-- What holds of the empty graph, and stays where a node or an edge comes or goes.
use Rattle.std.proofs.Common.{◌≢◌, inl, inr, rules, ◌≡◌, ℕ, ◌<◌, zero, suc, Bool, true, false, List, [], ◌∷◌, ◌++◌, length, Option, Some, None, refl, sym, ap, ◌∙◌, subst, nat_eq, arith, true≢false}
use Rattle.std.specs.Prelude.{◌⊎◌, ◌&&◌, ◌||◌, not, IsTrue, IsSome, slice_get, slice_set, option_and_then, is_some, bytes_eq, if◌then◌else◌}
use Rattle.std.specs.List.{IsDistinct, AllByRecursion}
use Rattle.std.specs.FinSet as set
use Rattle.std.proofs.lemmas.Bool.{eqb-true, and_parts, or_parts}
use Rattle.std.proofs.lemmas.List.Folds.{list_any-append}
use Rattle.std.proofs.lemmas.Map.Keys.{IsDistinct-head, IsDistinct-tail, IsDistinct-cons}
use Rattle.graph_spec.specs.Graphs.{Graph, IsGraph, empty_graph, edge_cmp, is_live, has_edge, is_seen}
use Rattle.graph_spec.specs.Changes.{with_label, with_node, with_edge, without_edge, without_node, is_used}
use Rattle.graph_spec.specs.Shapes.{IsShape, shape_of}
use Rattle.std.specs.Cmp.{IsEquivalence}
use Rattle.std.specs.Cmp.Rules.{comparing}
use Rattle.std.proofs.Math.Bool.{or-true}
use Rattle.graph_spec.proofs.EdgeOrder.{edge_cmp_total, eq_pair}
use Rattle.graph_spec.proofs.Uses.{unused_bare}

bytes_laws : IsEquivalence bytes_eq
bytes_laws = search (comparing, rules)

pub edge_with : (g : Graph) (u v a b : ℕ) → has_edge (with_edge g u v) a b ≡ ((nat_eq a u && nat_eq b v) || has_edge g a b)
edge_with g u v a b = set.contains-insert edge_cmp_total g.edges (u, v) (a, b) ∙ ap (λ x. x || has_edge g a b) (eq_pair a b u v)

pub edge_without : (g : Graph) (u v a b : ℕ) → has_edge (without_edge g u v) a b ≡ (not (nat_eq a u && nat_eq b v) && has_edge g a b)
edge_without g u v a b = set.contains-remove edge_cmp_total g.edges (u, v) (a, b) ∙ ap (λ x. not x && has_edge g a b) (eq_pair a b u v)

allocated_below : (allocated : List (Option (List ℕ))) (n : ℕ) → IsSome (option_and_then (λ l. l) (slice_get allocated n)) → n < length allocated
allocated_below [] n h = absurd (true≢false (sym h))
allocated_below (x ∷ xs) zero h = omega arith
allocated_below (x ∷ xs) (suc n) h = omega (arith, allocated_below xs n h)

-- its live nodes are a shape
pub is_shape : (g : Graph) → IsGraph g → IsShape (shape_of g)
is_shape g s = record { below = λ n h. allocated_below g.allocated n h; from = s.from; onto = s.onto }

-- ---- a new node

-- what a list with one more label has at a place: what it had, or that label
label_grown : (allocated : List (Option (List ℕ))) (t r : List ℕ) (n : ℕ) → option_and_then (λ l. l) (slice_get (allocated ++ Some t ∷ []) n) ≡ Some r
    → (option_and_then (λ l. l) (slice_get allocated n) ≡ Some r) ⊎ (r ≡ t)
label_grown [] t r zero e = inr (cc)
label_grown [] t r (suc n) e = cc
label_grown (x ∷ xs) t r zero e = inl e
label_grown (x ∷ xs) t r (suc n) e = label_grown xs t r n e

label_stays : (allocated : List (Option (List ℕ))) (t : List ℕ) (n : ℕ) → IsSome (option_and_then (λ l. l) (slice_get allocated n))
    → IsSome (option_and_then (λ l. l) (slice_get (allocated ++ Some t ∷ []) n))
label_stays [] t n h = absurd (true≢false (sym h))
label_stays (x ∷ xs) t zero h = h
label_stays (x ∷ xs) t (suc n) h = label_stays xs t n h

-- the text is seen once it is among the labels, and what was seen stays so
seen_with : (seen : List (List ℕ)) (t : List ℕ) (b : Bool) → is_seen seen t ≡ b → IsTrue (is_seen (if b then seen else seen ++ t ∷ []) t)
seen_with seen t true e = e
seen_with seen t false e = list_any-append (bytes_eq t) seen (t ∷ []) ∙ ap (λ x. is_seen seen t || (x || false)) (bytes_laws.refl t) ∙ or-true (is_seen seen t)

seen_still : (seen : List (List ℕ)) (t r : List ℕ) (b : Bool) → IsTrue (is_seen seen r) → IsTrue (is_seen (if b then seen else seen ++ t ∷ []) r)
seen_still seen t r true h = h
seen_still seen t r false h = list_any-append (bytes_eq r) seen (t ∷ []) ∙ ap (λ x. x || is_seen (t ∷ []) r) h

-- a text that isn't seen, put behind those that are
unlike : (t : List ℕ) (xs : List (List ℕ)) (x : List ℕ) → AllByRecursion (λ y. bytes_eq x y ≡ false) xs → bytes_eq x t ≡ false → AllByRecursion (λ y. bytes_eq x y ≡ false) (xs ++ t ∷ [])
unlike t [] x a h = (h, tt)
unlike t (y ∷ ys) x a h = (a.0, unlike t ys x a.1 h)

distinct_more : (seen : List (List ℕ)) (t : List ℕ) → IsDistinct bytes_eq seen → is_seen seen t ≡ false → IsDistinct bytes_eq (seen ++ t ∷ [])
distinct_more [] t d h = IsDistinct-cons bytes_eq t [] tt d
distinct_more (x ∷ xs) t d h =
    let p = or_parts (bytes_eq t x) (is_seen xs t) h in
    IsDistinct-cons bytes_eq x (xs ++ t ∷ []) (unlike t xs x (IsDistinct-head bytes_eq x xs d) (bytes_laws.symm x t ∙ p.0)) (distinct_more xs t (IsDistinct-tail bytes_eq x xs d) p.1)

distinct_with : (seen : List (List ℕ)) (t : List ℕ) (b : Bool) → is_seen seen t ≡ b → IsDistinct bytes_eq seen → IsDistinct bytes_eq (if b then seen else seen ++ t ∷ [])
distinct_with seen t true e d = d
distinct_with seen t false e d = distinct_more seen t d e

pub graph_with_node : (g : Graph) (t : List ℕ) → IsGraph g → IsGraph (with_node g t)
graph_with_node g t s = record {
  distinct = distinct_with g.seen t (is_seen g.seen t) refl s.distinct;
  labelled = λ n r h. elim (label_grown g.allocated t r n h) [
    | inl old ↦ seen_still g.seen t r (is_seen g.seen t) (s.labelled n r old)
    | inr new ↦ subst (λ x. IsTrue (is_seen (with_label g.seen t) x)) (sym new) (seen_with g.seen t (is_seen g.seen t) refl)
  ];
  from = λ u v h. label_stays g.allocated t u (s.from u v h);
  onto = λ u v h. label_stays g.allocated t v (s.onto u v h);
}

-- ---- an edge more, an edge less

either : (a b : Bool) → IsTrue (a || b) → IsTrue a ⊎ IsTrue b
either true b h = inl refl
either false b h = inr h

pub graph_with_edge : (g : Graph) (u v : ℕ) → IsGraph g → IsTrue (is_live g u) → IsTrue (is_live g v) → IsGraph (with_edge g u v)
graph_with_edge g u v s from onto = record {
  distinct = s.distinct;
  labelled = s.labelled;
  from = λ a b h. elim (either (nat_eq a u && nat_eq b v) (has_edge g a b) (sym (edge_with g u v a b) ∙ h)) [
    | inl new ↦ subst (λ x. IsTrue (is_live g x)) (sym (eqb-true a u (and_parts (nat_eq a u) (nat_eq b v) new).0)) from
    | inr old ↦ s.from a b old
  ];
  onto = λ a b h. elim (either (nat_eq a u && nat_eq b v) (has_edge g a b) (sym (edge_with g u v a b) ∙ h)) [
    | inl new ↦ subst (λ x. IsTrue (is_live g x)) (sym (eqb-true b v (and_parts (nat_eq a u) (nat_eq b v) new).1)) onto
    | inr old ↦ s.onto a b old
  ];
}

pub graph_without_edge : (g : Graph) (u v : ℕ) → IsGraph g → IsGraph (without_edge g u v)
graph_without_edge g u v s = record {
  distinct = s.distinct;
  labelled = s.labelled;
  from = λ a b h. s.from a b (and_parts (not (nat_eq a u && nat_eq b v)) (has_edge g a b) (sym (edge_without g u v a b) ∙ h)).1;
  onto = λ a b h. s.onto a b (and_parts (not (nat_eq a u && nat_eq b v)) (has_edge g a b) (sym (edge_without g u v a b) ∙ h)).1;
}

-- ---- a node less

-- only the label at that place goes
label_left : (allocated : List (Option (List ℕ))) (u n : ℕ) (t : List ℕ) → option_and_then (λ l. l) (slice_get (slice_set allocated u None) n) ≡ Some t
    → option_and_then (λ l. l) (slice_get allocated n) ≡ Some t
label_left [] u n t h = h
label_left (x ∷ xs) zero zero t h = cc
label_left (x ∷ xs) zero (suc n) t h = h
label_left (x ∷ xs) (suc u) zero t h = h
label_left (x ∷ xs) (suc u) (suc n) t h = label_left xs u n t h

label_kept : (allocated : List (Option (List ℕ))) (u n : ℕ) → n ≢ u → option_and_then (λ l. l) (slice_get (slice_set allocated u None) n) ≡ option_and_then (λ l. l) (slice_get allocated n)
label_kept [] u n e = refl
label_kept (x ∷ xs) zero zero e = absurd (e refl)
label_kept (x ∷ xs) zero (suc n) e = refl
label_kept (x ∷ xs) (suc u) zero e = refl
label_kept (x ∷ xs) (suc u) (suc n) e = label_kept xs u n (λ p. e (ap suc p))

pub graph_without_node : (g : Graph) (u : ℕ) → IsGraph g → is_used g u ≡ false → IsGraph (without_node g u)
graph_without_node g u s unused = record {
  distinct = s.distinct;
  labelled = λ n t h. s.labelled n t (label_left g.allocated u n t h);
  from = λ a b h. subst IsTrue (sym (ap is_some (label_kept g.allocated u a (λ e. true≢false (sym h ∙ ap (λ x. has_edge g x b) e ∙ (unused_bare g u unused).from b))))) (s.from a b h);
  onto = λ a b h. subst IsTrue (sym (ap is_some (label_kept g.allocated u b (λ e. true≢false (sym h ∙ ap (has_edge g a) e ∙ (unused_bare g u unused).onto a))))) (s.onto a b h);
}

-- the empty graph is one
no_edge : (u v : ℕ) → has_edge empty_graph u v ≡ false
no_edge u v = set.contains-empty edge_cmp (u, v)

pub graph_empty : IsGraph empty_graph
unfolding IsDistinct
graph_empty = record {
  distinct = tt;
  labelled = λ n t h. absurd (true≢false (sym (ap is_some h)));
  from = λ u v h. absurd (true≢false (sym h ∙ no_edge u v));
  onto = λ u v h. absurd (true≢false (sym h ∙ no_edge u v));
}
