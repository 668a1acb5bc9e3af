-- Nodes at which no edge begins or ends.
use Rattle.std.proofs.Common.{◌≡◌, ℕ, Bool, true, false, List, [], ◌∷◌, refl, sym, ap, ◌∙◌, nat_eq, true≢false}
use Rattle.std.specs.Prelude.{◌||◌, ◌&&◌}
use Rattle.std.specs.List.{list_any}
use Rattle.std.specs.Ordering.{eq_by_cmp}
use Rattle.std.specs.FinSet as set
use Rattle.std.proofs.lemmas.Bool.{eqb-true}
use Rattle.std.proofs.lemmas.Cmp.{nat_eq_equiv}
use Rattle.graph_spec.specs.Graphs.{Graph, edge_cmp, has_edge}
use Rattle.graph_spec.specs.Changes.{is_used}
use Rattle.graph_spec.proofs.EdgeOrder.{eq_pair}
use Rattle.std.proofs.lemmas.Bool.{and_parts, or_parts}
use Rattle.std.proofs.Math.Bool.{and-true, or-true}

abbrev touches : ℕ → ℕ × ℕ → Bool
touches u e = nat_eq e.0 u || nat_eq e.1 u

-- a pair that touches the node isn't one that doesn't
apart : (u a b : ℕ) (e : ℕ × ℕ) → touches u e ≡ false → touches u (a, b) ≡ true → eq_by_cmp edge_cmp (a, b) e ≡ false
apart u a b e h t =
    eq_pair a b e.0 e.1
    ∙ elim (nat_eq a e.0 && nat_eq b e.1) as (λ x. (nat_eq a e.0 && nat_eq b e.1) ≡ x → x ≡ false) [
      | true ↦ λ q. let p = and_parts (nat_eq a e.0) (nat_eq b e.1) q in
          absurd (true≢false (sym t ∙ ap (λ k. nat_eq k u || nat_eq b u) (eqb-true a e.0 p.0) ∙ ap (λ k. nat_eq e.0 u || nat_eq k u) (eqb-true b e.1 p.1) ∙ h))
      | false ↦ λ q. refl
    ] refl

untouched : (u a b : ℕ) (es : List (ℕ × ℕ)) → list_any (touches u) es ≡ false → touches u (a, b) ≡ true → list_any (eq_by_cmp edge_cmp (a, b)) es ≡ false
untouched u a b [] h t = refl
untouched u a b (e ∷ es) h t =
    let n = or_parts (touches u e) (list_any (touches u) es) h in
    ap (λ x. x || list_any (eq_by_cmp edge_cmp (a, b)) es) (apart u a b e n.0 t) ∙ untouched u a b es n.1 t

begins : (u : ℕ) (e : ℕ × ℕ) → eq_by_cmp edge_cmp (u, e.1) e ≡ nat_eq e.0 u
begins u e = eq_pair u e.1 e.0 e.1 ∙ ap (λ x. nat_eq u e.0 && x) (nat_eq_equiv.refl e.1) ∙ and-true (nat_eq u e.0) ∙ nat_eq_equiv.symm u e.0

ends : (u : ℕ) (e : ℕ × ℕ) → eq_by_cmp edge_cmp (e.0, u) e ≡ nat_eq e.1 u
ends u e = eq_pair e.0 u e.0 e.1 ∙ ap (λ x. x && nat_eq u e.1) (nat_eq_equiv.refl e.0) ∙ nat_eq_equiv.symm u e.1

bare : (u : ℕ) (es : List (ℕ × ℕ)) → ((w : ℕ) → list_any (eq_by_cmp edge_cmp (u, w)) es ≡ false) → ((w : ℕ) → list_any (eq_by_cmp edge_cmp (w, u)) es ≡ false)
    → list_any (touches u) es ≡ false
bare u [] from onto = refl
bare u (e ∷ es) from onto =
    let first = sym (begins u e) ∙ (or_parts (eq_by_cmp edge_cmp (u, e.1) e) (list_any (eq_by_cmp edge_cmp (u, e.1)) es) (from e.1)).0 in
    let last = sym (ends u e) ∙ (or_parts (eq_by_cmp edge_cmp (e.0, u) e) (list_any (eq_by_cmp edge_cmp (e.0, u)) es) (onto e.0)).0 in
    ap (λ x. (x || nat_eq e.1 u) || list_any (touches u) es) first ∙ ap (λ x. x || list_any (touches u) es) last
    ∙ bare u es (λ w. (or_parts (eq_by_cmp edge_cmp (u, w) e) (list_any (eq_by_cmp edge_cmp (u, w)) es) (from w)).1)
    (λ w. (or_parts (eq_by_cmp edge_cmp (w, u) e) (list_any (eq_by_cmp edge_cmp (w, u)) es) (onto w)).1)

-- no edge begins at the node, and none ends at it
pub record IsBare (g : Graph) (u : ℕ) : Type 0 where
  pub from : (w : ℕ) → has_edge g u w ≡ false
  pub onto : (w : ℕ) → has_edge g w u ≡ false

pub bare_unused : (g : Graph) (u : ℕ) → IsBare g u → is_used g u ≡ false
bare_unused g u b =
    bare u (set.items g.edges) (λ w. sym (set.contains-items g.edges (u, w)) ∙ b.from w) (λ w. sym (set.contains-items g.edges (w, u)) ∙ b.onto w)

pub unused_bare : (g : Graph) (u : ℕ) → is_used g u ≡ false → IsBare g u
unused_bare g u h = record {
  from = λ w. set.contains-items g.edges (u, w) ∙ untouched u u w (set.items g.edges) h (ap (λ x. x || nat_eq w u) (nat_eq_equiv.refl u));
  onto = λ w. set.contains-items g.edges (w, u) ∙ untouched u w u (set.items g.edges) h (ap (λ x. nat_eq w u || x) (nat_eq_equiv.refl u) ∙ or-true (nat_eq w u));
}
