-- How much there is once a step is made.
use Rattle.std.proofs.Common.{◌≡◌, ℕ, suc, ◌+◌, ◌-◌, ◌<◌, ◌≤◌, Bool, true, false, cond, List, [], ◌∷◌, ◌++◌, length, Some, None, Ok, Err, refl, sym, ap, ◌∙◌, arith, inl, inr, nat_lt, true≢false}
use Rattle.std.specs.Prelude.{◌&&◌, ◌||◌, not, if◌then◌else◌, is_some, position, bytes_eq}
use Rattle.std.specs.Int.{from_bool}
use Rattle.std.specs.List.{list_any, position_or_len}
use Rattle.std.specs.FinSet as set
use Rattle.std.proofs.lemmas.Bool.{cases_Bool}
use Rattle.std.proofs.lemmas.Bool.Decides.{nat_tests}
use Rattle.std.proofs.lemmas.List.Folds.{list_any-append}
use Rattle.std.proofs.lemmas.Slice.Eq.{bytes_eq-Decides}
use Rattle.graph_spec.specs.declared.limits.Limits.{Limits}
use Rattle.graph_spec.specs.declared.refusal.Refusal.TheVariants.{NoNode, NoEdge, Limit}
use Rattle.graph_spec.specs.Graphs.{Graph, Edges, has_edge, is_seen, is_live}
use Rattle.graph_spec.specs.Changes.{with_label, with_edge, without_edge, edge_fits}
use Rattle.graph_spec.proofs.EdgeOrder.{edge_cmp_total, edge_cmp-IsAntisymmetric}
use Rattle.bisim_spec.proofs.EdgeSets.{eq, eq_is, some_len}
use Rattle.change_spec.specs.Steps.{Step, node, link, unlink, drop, relabel, made, after, touches, without_node, apply_step}
use Rattle.change_spec.proofs.KeptEdges.{halves, removed_len}
use Rattle.graph_steps.specs.Counted.{touching}

pub edges_more : (edges : Edges) (e : ℕ × ℕ) → set.contains edges e ≡ false → set.len (set.insert edges e) ≡ set.len edges + 1
edges_more edges e absent = set.len-insert edge_cmp_total edges e ∙ ap (λ b. cond b (set.len edges) (set.len edges + 1)) absent

pub edges_fewer : (edges : Edges) (e : ℕ × ℕ) → set.contains edges e ≡ true → set.len (set.remove edges e) + 1 ≡ set.len edges
edges_fewer edges e present = (let a = removed_len edges e present in let b = some_len edges e present in omega (arith, a, b))

pub edges_left : (g : Graph) (u : ℕ) → set.len (without_node g u).edges + touching g u ≡ set.len g.edges
edges_left g u = (let h = halves (set.len g.edges) g.edges (touches u) refl in omega (arith, h))

-- a text is found exactly where some text of the list passes
pub is_some-position : {X : Type 0} (p : X → Bool) (xs : List X) → is_some (position p xs) ≡ list_any p xs
is_some-position p xs = found _ _ ∙ place p xs
  where
    found : (k n : ℕ) → is_some (cond (nat_lt k n) (Some k) None) ≡ nat_lt k n
    found k n = elim (nat_lt k n) as (λ b. is_some (cond b (Some k) None) ≡ b) [ true ↦ refl | false ↦ refl ]

    more : (k n : ℕ) → nat_lt (1 + k) (suc n) ≡ nat_lt k n
    more k n = grind (arith, nat_tests)

    place : {X : Type 0} (p : X → Bool) (xs : List X) → nat_lt (position_or_len p xs) (length xs) ≡ list_any p xs
    place p [] = refl
    place p (x ∷ xs) = elim (p x) as (λ b. nat_lt (cond (not b) (1 + position_or_len p xs) 0) (suc (length xs)) ≡ (b || list_any p xs)) [
      | true ↦ grind (arith, nat_tests)
      | false ↦ more (position_or_len p xs) (length xs) ∙ place p xs
    ]

-- what goes with a node is among what is counted
pub most_gone : (exact : Bool) (gone count : ℕ) (g : Graph) (u : ℕ) → (exact ≡ true → count ≡ set.len g.edges) → (exact ≡ true → gone ≡ touching g u) → (exact ≡ false → gone ≡ 0) → gone ≤ count
most_gone true gone count g u is on off = (let a = is refl in let b = on refl in let l = edges_left g u in omega (arith, a, b, l))
most_gone false gone count g u is on off = (let a = off refl in omega (arith, a))

-- the counts of edges once a node goes
pub left_most : (exact : Bool) (gone count : ℕ) (g : Graph) (u : ℕ) → (exact ≡ true → count ≡ set.len g.edges) → (exact ≡ true → gone ≡ touching g u) → (exact ≡ false → gone ≡ 0) → set.len g.edges ≤ count
    → set.len (without_node g u).edges ≤ count - gone
left_most true gone count g u is on off most = (let a = is refl in let b = on refl in let l = edges_left g u in omega (arith, a, b, l))
left_most false gone count g u is on off most = (let a = off refl in let l = edges_left g u in omega (arith, a, l, most))

pub left_is : (exact : Bool) (gone count : ℕ) (g : Graph) (u : ℕ) → (exact ≡ true → count ≡ set.len g.edges) → (exact ≡ true → gone ≡ touching g u) → exact ≡ true
    → count - gone ≡ set.len (without_node g u).edges
left_is exact gone count g u is on h = (let a = is h in let b = on h in let l = edges_left g u in omega (arith, a, b, l))

-- an edge that is there
pub edges_same : (edges : Edges) (e : ℕ × ℕ) → set.contains edges e ≡ true → set.insert edges e ≡ edges
edges_same edges e present = set.same_set edge_cmp_total edge_cmp-IsAntisymmetric (set.insert edges e) edges (λ k. set.contains-insert edge_cmp_total edges e k ∙ there k)
  where
    there : (k : ℕ × ℕ) → (eq k e || set.contains edges k) ≡ set.contains edges k
    there k = elim (cases_Bool (eq k e)) [
      | inl is ↦ (let t : set.contains edges k ≡ true = ap (set.contains edges) (eq_is k e is) ∙ present in rw (is, t) refl)
      | inr apart ↦ rw apart refl
    ]

pub fits_more : (b : Bool) (len count limit : ℕ) → len ≤ count → count < limit → (b || nat_lt len limit) ≡ true
fits_more true len count limit h k = refl
fits_more false len count limit h k = grind (arith, nat_tests)

pub linked : (g : Graph) (limits : Limits) (u v : ℕ) → is_live g u ≡ true → is_live g v ≡ true → edge_fits g limits u v ≡ true → apply_step (link u v) g limits ≡ Ok (with_edge g u v)
linked g limits u v from onto fits =
    ap (λ b. if b && is_live g v then (if edge_fits g limits u v then Ok (with_edge g u v) else Err Limit) else Err NoNode) from
    ∙ ap (λ b. if b then (if edge_fits g limits u v then Ok (with_edge g u v) else Err Limit) else Err NoNode) onto
    ∙ ap (λ b. if b then Ok (with_edge g u v) else Err Limit) fits

pub unlinked : (g : Graph) (limits : Limits) (u v : ℕ) → is_live g u ≡ true → is_live g v ≡ true → has_edge g u v ≡ true → apply_step (unlink u v) g limits ≡ Ok (without_edge g u v)
unlinked g limits u v from onto present =
    ap (λ b. if b && is_live g v then (if has_edge g u v then Ok (without_edge g u v) else Err NoEdge) else Err NoNode) from
    ∙ ap (λ b. if b then (if has_edge g u v then Ok (without_edge g u v) else Err NoEdge) else Err NoNode) onto
    ∙ ap (λ b. if b then Ok (without_edge g u v) else Err NoEdge) present

-- one edge fewer, where they are counted
pub one_less : (exact : Bool) (one count : ℕ) (g : Graph) (u v : ℕ) → one ≡ from_bool exact → (exact ≡ true → count ≡ set.len g.edges) → has_edge g u v ≡ true → one ≤ count
one_less true one count g u v e is present = (let a = is refl in let s = some_len g.edges (u, v) present in omega (arith, a, e, s))
one_less false one count g u v e is present = omega (arith, e)

pub less_most : (exact : Bool) (one count : ℕ) (g : Graph) (u v : ℕ) → one ≡ from_bool exact → (exact ≡ true → count ≡ set.len g.edges) → has_edge g u v ≡ true → set.len g.edges ≤ count
    → set.len (set.remove g.edges (u, v)) ≤ count - one
less_most true one count g u v e is present most = (let a = is refl in let s = edges_fewer g.edges (u, v) present in omega (arith, a, e, s))
less_most false one count g u v e is present most = (let s = edges_fewer g.edges (u, v) present in omega (arith, e, s, most))

pub less_is : (exact : Bool) (one count : ℕ) (g : Graph) (u v : ℕ) → one ≡ from_bool exact → (exact ≡ true → count ≡ set.len g.edges) → has_edge g u v ≡ true → exact ≡ true
    → count - one ≡ set.len (set.remove g.edges (u, v))
less_is true one count g u v e is present on = (let a = is refl in let s = edges_fewer g.edges (u, v) present in omega (arith, a, e, s))
less_is false one count g u v e is present on = absurd (true≢false (sym on))

or_false : (b : Bool) → (b || false) ≡ b
or_false true = refl
or_false false = refl

-- what is seen with one more label
pub seen_with : (seen : List (List ℕ)) (l t : List ℕ) → is_seen (with_label seen l) t ≡ (is_seen seen t || bytes_eq t l)
seen_with seen l t = elim (cases_Bool (is_seen seen l)) [
  | inl on ↦ ap (λ b. is_seen (if b then seen else (seen ++ l ∷ [])) t) on ∙ known on
  | inr off ↦ ap (λ b. is_seen (if b then seen else (seen ++ l ∷ [])) t) off ∙ list_any-append (bytes_eq t) seen (l ∷ []) ∙ ap (λ b. is_seen seen t || b) (or_false (bytes_eq t l))
]
  where
    known : is_seen seen l ≡ true → is_seen seen t ≡ (is_seen seen t || bytes_eq t l)
    known on = elim (cases_Bool (bytes_eq t l)) [
      | inr apart ↦ sym (ap (λ b. is_seen seen t || b) apart ∙ or_false (is_seen seen t))
      | inl alike ↦ (
          let same : t ≡ l = (bytes_eq-Decides t l).0 alike in
          let there : is_seen seen t ≡ true = ap (is_seen seen) same ∙ on in
          rw there refl)
    ]

seen_kept : (seen : List (List ℕ)) (l t : List ℕ) → is_seen seen t ≡ true → is_seen (with_label seen l) t ≡ true
seen_kept seen l t h = seen_with seen l t ∙ ap (λ b. b || bytes_eq t l) h

-- a label that is seen stays so
pub seen_stays : (c : List Step) (g : Graph) (t : List ℕ) → is_seen g.seen t ≡ true → is_seen (after c g).seen t ≡ true
seen_stays [] g t h = h
seen_stays (s ∷ ss) g t h = seen_stays ss (made s g) t (one s)
  where
    one : (s : Step) → is_seen (made s g).seen t ≡ true
    one (node l) = seen_kept g.seen l t h
    one (link u v) = h
    one (unlink u v) = h
    one (drop u) = h
    one (relabel u l) = seen_kept g.seen l t h
