-- Small shapes that are written out, for worked examples.
use Rattle.std.proofs.Common.{◌≡◌, ℕ, zero, suc, ◌<◌, List, [], ◌∷◌, length, IsSome, refl, sym, arith, inl, inr, true, Bool, ◌&&◌, true≢false, ltb-true}
use Rattle.std.specs.Prelude.{nat_eq, nat_lt, slice_get}
use Rattle.std.specs.List.{list_any, list_all}
use Rattle.std.proofs.lemmas.Bool.{and_parts, or_cases}
use Rattle.std.proofs.lemmas.Bool.Decides.{Decides-eqb}
use Rattle.std.proofs.lemmas.Option.{slice_get_within}
use Rattle.graph_spec.specs.Shapes.{Shape, IsShape}
use Rattle.bisim_spec.proofs.Bisimilar.{some_of}

abbrev pub is_edge : ℕ → ℕ → ℕ × ℕ → Bool
is_edge u v e = nat_eq u e.0 && nat_eq v e.1

-- nodes with these labels, numbered from 0 on, and these edges
abbrev pub shape_of_list : List (List ℕ) → List (ℕ × ℕ) → Shape
shape_of_list labels edges = record { size = length labels; label = slice_get labels; edge = λ u v. list_any (is_edge u v) edges }

-- the edges join nodes
abbrev pub joins_nodes : List (List ℕ) → List (ℕ × ℕ) → Bool
joins_nodes labels edges = list_all (λ e. nat_lt e.0 (length labels) && nat_lt e.1 (length labels)) edges

there : (labels : List (List ℕ)) (n : ℕ) → n < length labels → IsSome (slice_get labels n)
there [] n h = absurd (omega (arith, h))
there (t ∷ labels) zero h = refl
there (t ∷ labels) (suc n) h = there labels n (omega (arith, h))

ends : (labels : List (List ℕ)) (edges : List (ℕ × ℕ)) (u v : ℕ) → joins_nodes labels edges ≡ true → list_any (is_edge u v) edges ≡ true
    → (u < length labels) × (v < length labels)
ends labels [] u v h k = absurd (true≢false (sym k))
ends labels (e ∷ edges) u v h k =
    let a = and_parts (nat_lt e.0 (length labels) && nat_lt e.1 (length labels)) (joins_nodes labels edges) h in
    elim (or_cases (is_edge u v e) (list_any (is_edge u v) edges) k) [
      | inl same ↦
          (let b = and_parts (nat_lt e.0 (length labels)) (nat_lt e.1 (length labels)) a.0 in
          let c = and_parts (nat_eq u e.0) (nat_eq v e.1) same in
          let from : u ≡ e.0 = (Decides-eqb u e.0).0 c.0 in
          let onto : v ≡ e.1 = (Decides-eqb v e.1).0 c.1 in
          let x = ltb-true e.0 (length labels) b.0 in
          let y = ltb-true e.1 (length labels) b.1 in
          (omega (arith, from, x), omega (arith, onto, y)))
      | inr rest ↦ ends labels edges u v a.1 rest
    ]

pub shape_from : (labels : List (List ℕ)) (edges : List (ℕ × ℕ)) → joins_nodes labels edges ≡ true → IsShape (shape_of_list labels edges)
shape_from labels edges h = record {
  below = λ n node. let t = some_of (slice_get labels n) node in slice_get_within labels n t.0 t.1;
  from = λ u v e. there labels u (ends labels edges u v h e).0;
  onto = λ u v e. there labels v (ends labels edges u v h e).1;
}
