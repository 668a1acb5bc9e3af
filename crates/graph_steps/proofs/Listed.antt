-- The edges at a node, by the lists of its parents and its children: a loop is in both.
use Rattle.std.proofs.Common.{◌≡◌, ℕ, ◌+◌, Bool, true, false, List, [], ◌∷◌, length, refl, sym, ap, ◌∙◌, arith, inl, inr, nat_eq, count_by}
use Rattle.std.specs.Prelude.{◌&&◌, ◌||◌, not}
use Rattle.std.specs.List.{IsDistinct, AllByRecursion, list_any}
use Rattle.std.specs.FinSet as set
use Rattle.std.proofs.Math.Bool.{and-false, and-true, or-false}
use Rattle.std.proofs.lemmas.Bool.Decides.{eqb_tells}
use Rattle.std.proofs.lemmas.Map.Keys.{IsDistinct-head, IsDistinct-tail}
use Rattle.graph_spec.specs.Graphs.{Graph, Edges, edge_cmp, has_edge}
use Rattle.graph_spec.specs.Members.{has, Lists}
use Rattle.bisim_spec.specs.NodeEdges.{edges_onto, edges_from}
use Rattle.bisim_spec.proofs.BelowLaws.{bit_of}
use Rattle.bisim_spec.proofs.EdgeSets.{eq, kept, len_more, count_cons}
use Rattle.bisim_spec.proofs.Moves.{onto_has, from_has, onto_distinct, from_distinct}
use Rattle.change_spec.specs.Steps.{touches}
use Rattle.graph_steps.specs.Counted.{touching}
use Rattle.graph_steps.specs.Degrees.{one_for}

abbrev no_edges : Edges
no_edges = set.empty

abbrev all_pass : ℕ × ℕ → Bool
all_pass e = true

abbrev ends_at : ℕ → ℕ × ℕ → Bool
ends_at u e = nat_eq e.1 u

abbrev ends_off : ℕ → ℕ × ℕ → Bool
ends_off u e = not (nat_eq e.1 u)

all_counted : (u : ℕ) (ps : List ℕ) → count_by all_pass (edges_onto u ps) ≡ length ps
all_counted u [] = refl
all_counted u (p ∷ ps) = (let e = count_cons all_pass (p, u) (edges_onto u ps) in let r = all_counted u ps in omega (arith, e, r))

none_there : (u : ℕ) (cs : List ℕ) → AllByRecursion (λ y. nat_eq u y ≡ false) cs → has cs u ≡ false
none_there u [] h = refl
none_there u (c ∷ cs) h = rw h.0 (none_there u cs h.1)

off_counted : (u : ℕ) (cs : List ℕ) → IsDistinct nat_eq cs → count_by (ends_off u) (edges_from u cs) + one_for (has cs u) ≡ length cs
off_counted u [] d = refl
off_counted u (c ∷ cs) d = elim (eqb_tells c u) [
  | inl e ↦ (
      let step = count_cons (ends_off u) (u, c) (edges_from u cs) in
      let none : bit_of (not (nat_eq c u)) ≡ 0 = ap (λ b. bit_of (not b)) e.0 in
      let rest = off_counted u cs (IsDistinct-tail nat_eq c cs d) in
      let gone : has cs u ≡ false = ap (has cs) (sym e.1) ∙ none_there c cs (IsDistinct-head nat_eq c cs d) in
      let zero_for : one_for (has cs u) ≡ 0 = ap one_for gone in
      let here : has (c ∷ cs) u ≡ true = ap (λ m. nat_eq m c || has cs m) (sym e.1) ∙ self c in
      let one : one_for (has (c ∷ cs) u) ≡ 1 = ap one_for here in
      omega (arith, step, none, rest, zero_for, one))
  | inr x ↦ (
      let step = count_cons (ends_off u) (u, c) (edges_from u cs) in
      let some : bit_of (not (nat_eq c u)) ≡ 1 = ap (λ b. bit_of (not b)) x.0 in
      let rest = off_counted u cs (IsDistinct-tail nat_eq c cs d) in
      let back : nat_eq u c ≡ false = elim (eqb_tells u c) [ inl e ↦ absurd (x.1 (sym e.1)) | inr y ↦ y.0 ] in
      let same : one_for (has (c ∷ cs) u) ≡ one_for (has cs u) = ap (λ b. one_for (b || has cs u)) back in
      omega (arith, step, some, rest, same))
]
  where
    self : (n : ℕ) → (nat_eq n n || has cs n) ≡ true
    self n = elim (eqb_tells n n) [ inl e ↦ ap (λ b. b || has cs n) e.0 | inr x ↦ absurd (x.1 refl) ]

pub listed_edges : (g : Graph) (u : ℕ) (ps cs : List ℕ) → Lists (λ p. has_edge g p u) ps → Lists (has_edge g u) cs → touching g u + one_for (has_edge g u u) ≡ length ps + length cs
listed_edges g u ps cs lp lc =
    let first = len_more all_pass no_edges (edges_onto u ps) (onto_distinct u ps lp.once) (λ k h q. set.contains-empty edge_cmp k) (set.retain g.edges (ends_at u)) onto_all in
    let second = len_more (ends_off u) (set.retain g.edges (ends_at u)) (edges_from u cs) (from_distinct u cs lc.once) from_new (set.retain g.edges (touches u)) from_all in
    let none = set.len-empty edge_cmp in
    let parents = all_counted u ps in
    let children = off_counted u cs lc.once in
    let loop = ap one_for (lc.members u) in
    omega (arith, first, second, none, parents, children, loop)
  where
    onto_all : (k : ℕ × ℕ) → set.contains (set.retain g.edges (ends_at u)) k ≡ ((list_any (eq k) (edges_onto u ps) && true) || set.contains no_edges k)
    onto_all (a, b) =
        kept g.edges (ends_at u) (a, b)
        ∙ sym (ap (λ x. (list_any (eq (a, b)) (edges_onto u ps) && true) || x) (set.contains-empty edge_cmp (a, b)) ∙ or-false (list_any (eq (a, b)) (edges_onto u ps) && true)
        ∙ and-true (list_any (eq (a, b)) (edges_onto u ps)) ∙ onto_has a b u ps ∙ here a b)
      where
        here : (a b : ℕ) → (nat_eq b u && has ps a) ≡ (set.contains g.edges (a, b) && nat_eq b u)
        here a b = elim (eqb_tells b u) [
          | inl e ↦ (let m : has ps a ≡ set.contains g.edges (a, b) = lp.members a ∙ ap (λ n. set.contains g.edges (a, n)) (sym e.1) in rw (e.0, m) (sym (and-true (set.contains g.edges (a, b)))))
          | inr x ↦ rw x.0 (sym (and-false (set.contains g.edges (a, b))))
        ]

    from_new : (k : ℕ × ℕ) → list_any (eq k) (edges_from u cs) ≡ true → ends_off u k ≡ true → set.contains (set.retain g.edges (ends_at u)) k ≡ false
    from_new (a, b) h q = kept g.edges (ends_at u) (a, b) ∙ ap (λ x. set.contains g.edges (a, b) && x) (off b q) ∙ and-false (set.contains g.edges (a, b))
      where
        off : (b : ℕ) → not (nat_eq b u) ≡ true → nat_eq b u ≡ false
        off b q = elim (eqb_tells b u) [ inl e ↦ absurd (let f = e.0 in cc) | inr x ↦ x.0 ]

    from_all : (k : ℕ × ℕ) → set.contains (set.retain g.edges (touches u)) k ≡ ((list_any (eq k) (edges_from u cs) && ends_off u k) || set.contains (set.retain g.edges (ends_at u)) k)
    from_all (a, b) = rw (kept g.edges (touches u) (a, b), kept g.edges (ends_at u) (a, b), from_has a b u cs) (elim (eqb_tells a u) [
      | inl e ↦ (
          let m : has cs b ≡ set.contains g.edges (a, b) = lc.members b ∙ ap (λ n. set.contains g.edges (n, b)) (sym e.1) in
          rw (e.0, m) (both (set.contains g.edges (a, b)) (nat_eq b u)))
      | inr x ↦ rw x.0 (one (set.contains g.edges (a, b)) (nat_eq b u))
    ])
      where
        both : (c t : Bool) → (c && (true || t)) ≡ (((true && c) && not t) || (c && t))
        both true true = refl
        both true false = refl
        both false t = refl

        one : (c t : Bool) → (c && (false || t)) ≡ (((false && has cs b) && not t) || (c && t))
        one c t = refl
