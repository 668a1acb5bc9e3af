-- The lines of the edges of a graph give its edges.
use Rattle.std.proofs.Common.{◌≡◌, ℕ, zero, suc, ◌+◌, ◌-◌, ◌*◌, ◌<◌, ◌≤◌, ◌^◌, ◌⊎◌, List, [], ◌∷◌, ◌++◌, length, Option, Some, None, true, false, Bool, cond, nat_eq, nat_lt, true≢false, refl, sym, ◌∙◌, ap, subst, arith, inl, inr, append_assoc, append-nil, length-append}
use Rattle.std.specs.Prelude.{codes, decimal, ◌&&◌, ◌||◌, if◌then◌else◌}
use Rattle.std.specs.FinSet as set
use Rattle.std.specs.Cmp as cmp
use Rattle.std.specs.Ordering.{eq_by_cmp}
use Rattle.std.proofs.Math.Bool.{or-false}
use Rattle.std.proofs.Math.Nat.{suc-mul}
use Rattle.std.proofs.lemmas.Nat.{mul-le}
use Rattle.std.proofs.lemmas.Bool.{cases_lt, cases_Bool, and_parts, lt-ltb, ltb-true, eq-eqb, eqb-true}
use Rattle.std.proofs.lemmas.List.Folds.{list_any-append}
use Rattle.graph_spec.specs.Graphs.{Graph, IsGraph, edge_cmp, has_edge}
use Rattle.graph_spec.proofs.EdgeOrder.{edge_cmp_total, edge_cmp-IsAntisymmetric, eq_pair}
use Rattle.graph_spec.proofs.GraphLaws.{is_shape}
use Rattle.label_graph.specs.GraphViews.{edge_count}
use Rattle.index_file.specs.declared.due.Due.TheVariants as due
use Rattle.index_file.specs.SavedFiles.{edges_of}
use Rattle.index_file.specs.Statements.{edge, Says}
use Rattle.index_file.specs.Readings.{Reading, next_reading, last_of, is_behind, is_live_in, can_take_edge}
use Rattle.index_file.specs.WrittenFiles.{edge_line, edges_from, edge_lines}
use Rattle.index_file.proofs.SavedEdges.{is_among, edges_are}
use Rattle.index_file.proofs.WrittenLines.{uncut_both, uncut_above, uncut_decimal, number_written}
use Rattle.index_file.proofs.TakenTexts.{Leads, leads_none, leads_one, leads_below, leads_to, leads_text}

-- the edges that begin at u and end below n, and those that begin below n
abbrev pub pairs_from : Graph → ℕ → ℕ → List (ℕ × ℕ)
pairs_from g u zero = []
pairs_from g u (suc v) = if has_edge g u v then pairs_from g u v ++ (u, v) ∷ [] else pairs_from g u v

abbrev pub pairs_below : Graph → ℕ → List (ℕ × ℕ)
pairs_below g zero = []
pairs_below g (suc u) = pairs_below g u ++ pairs_from g u (length g.allocated)

from_on : (g : Graph) (u v : ℕ) → has_edge g u v ≡ true → pairs_from g u (suc v) ≡ pairs_from g u v ++ (u, v) ∷ []
from_on g u v h = rw h refl

from_off : (g : Graph) (u v : ℕ) → has_edge g u v ≡ false → pairs_from g u (suc v) ≡ pairs_from g u v
from_off g u v h = rw h refl

-- ---- how many they are

from_few : (g : Graph) (u n : ℕ) → length (pairs_from g u n) ≤ n
from_few g u zero = omega arith
from_few g u (suc v) = elim (cases_Bool (has_edge g u v)) [
  | inl on ↦ (let e = ap length (from_on g u v on) in let l = length-append (pairs_from g u v) ((u, v) ∷ []) in let b = from_few g u v in omega (arith, e, l, b))
  | inr off ↦ (let e = ap length (from_off g u v off) in let b = from_few g u v in omega (arith, e, b))
]

from_rises : (g : Graph) (u v n : ℕ) → v ≤ n → length (pairs_from g u v) ≤ length (pairs_from g u n)
from_rises g u v zero l = let e : v ≡ 0 = omega (arith, l) in let f = ap (λ k. length (pairs_from g u k)) e in omega (arith, f)
from_rises g u v (suc n) l = elim (cases_lt v (suc n)) [
  | inl low ↦
      (let b = from_rises g u v n (omega (arith, low)) in
      elim (cases_Bool (has_edge g u n)) [
        | inl on ↦ (let e = ap length (from_on g u n on) in let c = length-append (pairs_from g u n) ((u, n) ∷ []) in omega (arith, e, c, b))
        | inr off ↦ (let e = ap length (from_off g u n off) in omega (arith, e, b))
      ])
  | inr past ↦ (let e : v ≡ suc n = omega (arith, l, past) in let f = ap (λ k. length (pairs_from g u k)) e in omega (arith, f))
]

below_few : (g : Graph) (n : ℕ) → length (pairs_below g n) ≤ n * length g.allocated
below_few g zero = omega arith
below_few g (suc u) =
    let e = length-append (pairs_below g u) (pairs_from g u (length g.allocated)) in
    let b = below_few g u in
    let c = from_few g u (length g.allocated) in
    let m = suc-mul u (length g.allocated) in
    omega (arith, e, b, c, m)

below_rises : (g : Graph) (u n : ℕ) → u ≤ n → length (pairs_below g u) ≤ length (pairs_below g n)
below_rises g u zero l = let e : u ≡ 0 = omega (arith, l) in let f = ap (λ k. length (pairs_below g k)) e in omega (arith, f)
below_rises g u (suc n) l = elim (cases_lt u (suc n)) [
  | inl low ↦
      (let b = below_rises g u n (omega (arith, low)) in
      let c = length-append (pairs_below g n) (pairs_from g n (length g.allocated)) in
      omega (arith, b, c))
  | inr past ↦ (let e : u ≡ suc n = omega (arith, l, past) in let f = ap (λ k. length (pairs_below g k)) e in omega (arith, f))
]

-- ---- that they rise

behind_more : (o : Option (ℕ × ℕ)) (u v : ℕ) → is_behind o u v ≡ true → is_behind o u (suc v) ≡ true
behind_more None u v h = refl
behind_more (Some e) u v h = grind (arith, lt-ltb, ltb-true)

last_put : (es : List (ℕ × ℕ)) (e : ℕ × ℕ) → last_of (es ++ e ∷ []) ≡ Some e
last_put [] e = refl
last_put (x ∷ []) e = refl
last_put (x ∷ y ∷ es) e = last_put (y ∷ es) e

last_empty : (xs : List (ℕ × ℕ)) (u v : ℕ) → is_behind (last_of xs) u v ≡ true → is_behind (last_of (xs ++ [])) u v ≡ true
last_empty xs u v h = subst (λ es. is_behind (last_of es) u v ≡ true) (sym (append-nil xs)) h

behind_next : (o : Option (ℕ × ℕ)) (u v : ℕ) → is_behind o u v ≡ true → is_behind o (suc u) 0 ≡ true
behind_next None u v h = refl
behind_next (Some e) u v h = grind (arith, lt-ltb, ltb-true, eqb-true)

-- the edges that stand before that from u to v
abbrev pub pairs_to : Graph → ℕ → ℕ → List (ℕ × ℕ)
pairs_to g u v = pairs_below g u ++ pairs_from g u v

to_on : (g : Graph) (u v : ℕ) → has_edge g u v ≡ true → pairs_to g u (suc v) ≡ pairs_to g u v ++ (u, v) ∷ []
to_on g u v h = ap (λ es. pairs_below g u ++ es) (from_on g u v h) ∙ sym (append_assoc (pairs_below g u) (pairs_from g u v) ((u, v) ∷ []))

to_off : (g : Graph) (u v : ℕ) → has_edge g u v ≡ false → pairs_to g u (suc v) ≡ pairs_to g u v
to_off g u v h = ap (λ es. pairs_below g u ++ es) (from_off g u v h)

or_true : (b : Bool) → (b || true) ≡ true
or_true true = refl
or_true false = refl

all_behind : (g : Graph) (u v : ℕ) → is_behind (last_of (pairs_to g u v)) u v ≡ true
all_behind g zero zero = refl
all_behind g (suc u) zero =
    last_empty (pairs_below g (suc u)) (suc u) 0 (behind_next (last_of (pairs_to g u (length g.allocated))) u (length g.allocated) (all_behind g u (length g.allocated)))
all_behind g u (suc v) = elim (cases_Bool (has_edge g u v)) [
  | inl on ↦
      ap (λ es. is_behind (last_of es) u (suc v)) (to_on g u v on) ∙ ap (λ o. is_behind o u (suc v)) (last_put (pairs_to g u v) (u, v))
      ∙ ap (λ b. nat_lt u u || (b && nat_lt v (suc v))) (eq-eqb u u refl) ∙ ap (λ b. nat_lt u u || b) (lt-ltb v (suc v) (omega arith)) ∙ or_true (nat_lt u u)
  | inr off ↦ ap (λ es. is_behind (last_of es) u (suc v)) (to_off g u v off) ∙ behind_more (last_of (pairs_to g u v)) u v (all_behind g u v)
]

-- ---- that they are those of the graph
among_put : (es : List (ℕ × ℕ)) (u v a b : ℕ) → is_among (es ++ (u, v) ∷ []) a b ≡ (is_among es a b || (eq_by_cmp edge_cmp (a, b) (u, v) || false))
among_put es u v a b = list_any-append (eq_by_cmp edge_cmp (a, b)) es ((u, v) ∷ [])

or_cases : (x y : Bool) → (x || y) ≡ true → (x ≡ true) ⊎ (y ≡ true)
or_cases true y h = inl refl
or_cases false y h = inr h

or_left : (x y : Bool) → x ≡ true → (x || y) ≡ true
or_left x y h = ap (λ b. b || y) h

same_pair : (a b u v : ℕ) → (eq_by_cmp edge_cmp (a, b) (u, v) || false) ≡ true → (a ≡ u) × (b ≡ v)
same_pair a b u v h =
    let p = and_parts (nat_eq a u) (nat_eq b v) (sym (or-false (eq_by_cmp edge_cmp (a, b) (u, v)) ∙ eq_pair a b u v) ∙ h) in
    (eqb-true a u p.0, eqb-true b v p.1)

own_pair : (u v : ℕ) → (eq_by_cmp edge_cmp (u, v) (u, v) || false) ≡ true
own_pair u v =
    or-false (eq_by_cmp edge_cmp (u, v) (u, v)) ∙ eq_pair u v u v ∙ ap (λ b. b && nat_eq v v) (eq-eqb u u refl) ∙ eq-eqb v v refl

from_only : (g : Graph) (u n a b : ℕ) → is_among (pairs_from g u n) a b ≡ true → (a ≡ u) × (b < n) × (has_edge g a b ≡ true)
from_only g u zero a b h = absurd (true≢false (sym h))
from_only g u (suc v) a b h = elim (cases_Bool (has_edge g u v)) [
  | inl on ↦ elim (or_cases (is_among (pairs_from g u v) a b) (eq_by_cmp edge_cmp (a, b) (u, v) || false) (sym (ap (λ es. is_among es a b) (from_on g u v on) ∙ among_put (pairs_from g u v) u v a b) ∙ h)) [
    | inl old ↦ (let p = from_only g u v a b old in let l = p.1 in (p.0, omega (arith, l), p.2))
    | inr new ↦ (let p = same_pair a b u v new in let e = p.1 in (p.0, omega (arith, e), ap (λ x. has_edge g x b) p.0 ∙ ap (has_edge g u) p.1 ∙ on))
  ]
  | inr off ↦ (let p = from_only g u v a b (sym (ap (λ es. is_among es a b) (from_off g u v off)) ∙ h) in let l = p.1 in (p.0, omega (arith, l), p.2))
]

from_has : (g : Graph) (u n b : ℕ) → b < n → has_edge g u b ≡ true → is_among (pairs_from g u n) u b ≡ true
from_has g u zero b l h = absurd (omega (arith, l))
from_has g u (suc v) b l h = elim (cases_lt b v) [
  | inl low ↦ elim (cases_Bool (has_edge g u v)) [
    | inl on ↦ ap (λ es. is_among es u b) (from_on g u v on) ∙ among_put (pairs_from g u v) u v u b ∙ or_left (is_among (pairs_from g u v) u b) _ (from_has g u v b low h)
    | inr off ↦ ap (λ es. is_among es u b) (from_off g u v off) ∙ from_has g u v b low h
  ]
  | inr past ↦
      (let same : b ≡ v = omega (arith, l, past) in
      let on : has_edge g u v ≡ true = ap (has_edge g u) (sym same) ∙ h in
      ap (λ es. is_among es u b) (from_on g u v on) ∙ among_put (pairs_from g u v) u v u b
      ∙ ap (λ x. is_among (pairs_from g u v) u b || (eq_by_cmp edge_cmp (u, x) (u, v) || false)) same ∙ ap (λ x. is_among (pairs_from g u v) u b || x) (own_pair u v)
      ∙ or_true (is_among (pairs_from g u v) u b))
]

below_only : (g : Graph) (n a b : ℕ) → is_among (pairs_below g n) a b ≡ true → (a < n) × (has_edge g a b ≡ true)
below_only g zero a b h = absurd (true≢false (sym h))
below_only g (suc u) a b h =
    elim (or_cases (is_among (pairs_below g u) a b) (is_among (pairs_from g u (length g.allocated)) a b)
    (sym (list_any-append (eq_by_cmp edge_cmp (a, b)) (pairs_below g u) (pairs_from g u (length g.allocated))) ∙ h)) [
      | inl old ↦ (let p = below_only g u a b old in let l = p.0 in (omega (arith, l), p.1))
      | inr new ↦ (let p = from_only g u (length g.allocated) a b new in let e = p.0 in (omega (arith, e), p.2))
    ]

below_has : (g : Graph) (n a b : ℕ) → a < n → b < length g.allocated → has_edge g a b ≡ true → is_among (pairs_below g n) a b ≡ true
below_has g zero a b l m h = absurd (omega (arith, l))
below_has g (suc u) a b l m h =
    list_any-append (eq_by_cmp edge_cmp (a, b)) (pairs_below g u) (pairs_from g u (length g.allocated))
    ∙ elim (cases_lt a u) [
      | inl low ↦ or_left (is_among (pairs_below g u) a b) _ (below_has g u a b low m h)
      | inr past ↦
          (let same : a ≡ u = omega (arith, l, past) in
          ap (λ x. is_among (pairs_below g u) a b || is_among (pairs_from g u (length g.allocated)) x b) same
          ∙ ap (λ x. is_among (pairs_below g u) a b || x) (from_has g u (length g.allocated) b m (ap (λ x. has_edge g x b) (sym same) ∙ h))
          ∙ or_true (is_among (pairs_below g u) a b))
    ]

pub edges_same : (g : Graph) → IsGraph g → edges_of (pairs_below g (length g.allocated)) ≡ g.edges
edges_same g w =
    let all = pairs_below g (length g.allocated) in
    set.same_set edge_cmp_total edge_cmp-IsAntisymmetric (edges_of all) g.edges (λ q.
    edges_are all q.0 q.1
    ∙ cmp.both_ways (is_among all q.0 q.1) (has_edge g q.0 q.1) (λ h. (below_only g (length g.allocated) q.0 q.1 h).1)
    (λ h. below_has g (length g.allocated) q.0 q.1 ((is_shape g w).below q.0 (w.from q.0 q.1 h)) ((is_shape g w).below q.1 (w.onto q.0 q.1 h)) h))

-- each of them is one more
or-comm : (x y : Bool) → (x || y) ≡ (y || x)
or-comm true y = sym (or_true y)
or-comm false y = sym (or-false y)

len_put : (es : List (ℕ × ℕ)) (u v : ℕ) → is_among es u v ≡ false → set.len (edges_of (es ++ (u, v) ∷ [])) ≡ set.len (edges_of es) + 1
len_put es u v h =
    ap set.len (set.same_set edge_cmp_total edge_cmp-IsAntisymmetric (edges_of (es ++ (u, v) ∷ [])) (set.insert (edges_of es) (u, v)) (λ q.
    edges_are (es ++ (u, v) ∷ []) q.0 q.1 ∙ among_put es u v q.0 q.1
    ∙ ap (λ b. is_among es q.0 q.1 || b) (or-false (eq_by_cmp edge_cmp q (u, v)))
    ∙ or-comm (is_among es q.0 q.1) (eq_by_cmp edge_cmp q (u, v))
    ∙ ap (λ b. eq_by_cmp edge_cmp q (u, v) || b) (sym (edges_are es q.0 q.1))
    ∙ sym (set.contains-insert edge_cmp_total (edges_of es) (u, v) q)))
    ∙ set.len-insert edge_cmp_total (edges_of es) (u, v) ∙ ap (λ b. cond b (set.len (edges_of es)) (set.len (edges_of es) + 1)) (edges_are es u v ∙ h)

not_yet : (g : Graph) (u v : ℕ) → is_among (pairs_to g u v) u v ≡ false
not_yet g u v = elim (cases_Bool (is_among (pairs_to g u v) u v)) [
  | inl on ↦ elim (or_cases (is_among (pairs_below g u) u v) (is_among (pairs_from g u v) u v)
      (sym (list_any-append (eq_by_cmp edge_cmp (u, v)) (pairs_below g u) (pairs_from g u v)) ∙ on)) [
        | inl old ↦ absurd (let l = (below_only g u u v old).0 in omega (arith, l))
        | inr new ↦ absurd (let l = (from_only g u v u v new).1 in omega (arith, l))
      ]
  | inr off ↦ off
]

len_to : (g : Graph) (u v : ℕ) → set.len (edges_of (pairs_to g u v)) ≡ length (pairs_to g u v)
len_to g zero zero = set.len-empty edge_cmp
len_to g (suc u) zero = ap (λ es. set.len (edges_of es)) (append-nil (pairs_below g (suc u))) ∙ len_to g u (length g.allocated) ∙ ap length (sym (append-nil (pairs_below g (suc u))))
len_to g u (suc v) = elim (cases_Bool (has_edge g u v)) [
  | inl on ↦
      (let e = ap length (to_on g u v on) in
      let l = length-append (pairs_to g u v) ((u, v) ∷ []) in
      let b = len_to g u v in
      ap (λ es. set.len (edges_of es)) (to_on g u v on) ∙ len_put (pairs_to g u v) u v (not_yet g u v) ∙ omega (arith, e, l, b))
  | inr off ↦ ap (λ es. set.len (edges_of es)) (to_off g u v off) ∙ len_to g u v ∙ ap length (sym (to_off g u v off))
]

pub edges_counted : (g : Graph) → IsGraph g → edge_count g ≡ length (pairs_below g (length g.allocated))
edges_counted g w =
    let all = pairs_below g (length g.allocated) in
    ap set.len (sym (edges_same g w)) ∙ ap (λ es. set.len (edges_of es)) (sym (append-nil all)) ∙ len_to g (length g.allocated) 0 ∙ ap length (append-nil all)

-- there are fewer than 2^64
pub edges_few : (g : Graph) → IsGraph g → length g.allocated ≤ 4294967295 → edge_count g < 2 ^ 64
edges_few g w few =
    let c = edges_counted g w in
    let b = below_few g (length g.allocated) in
    let m = mul-le (length g.allocated) (length g.allocated) 4294967295 4294967295 few few in
    omega (arith, c, b, m)

-- ---- their lines

abbrev pub edges_read : ℕ → List (Option (List ℕ)) → ℕ → List (ℕ × ℕ) → Reading
edges_read k allocated n pairs = record { due = due.EdgesLeft n; k = k; allocated = allocated; pairs = pairs; views = [] }

edge_says : (u v : ℕ) → u < 2 ^ 64 → v < 2 ^ 64 → Says (decimal u ++ (codes " " ++ decimal v)) (edge u v)
edge_says u v h l = (decimal u, decimal v, refl, number_written u h, number_written v l)

edge_taken : (k : ℕ) (allocated : List (Option (List ℕ))) (n : ℕ) (ps : List (ℕ × ℕ)) (u v : ℕ) → can_take_edge (edges_read k allocated (suc n) ps) u v ≡ true
    → next_reading (edge u v) (edges_read k allocated (suc n) ps) ≡ Some (edges_read k allocated n (ps ++ (u, v) ∷ []))
edge_taken k allocated n ps u v h = rw h refl

edge_leads : (k : ℕ) (allocated : List (Option (List ℕ))) (n : ℕ) (ps : List (ℕ × ℕ)) (u v : ℕ) → u < 2 ^ 64 → v < 2 ^ 64
    → can_take_edge (edges_read k allocated (suc n) ps) u v ≡ true → Leads (edge_line u v) (edges_read k allocated (suc n) ps) (edges_read k allocated n (ps ++ (u, v) ∷ []))
edge_leads k allocated n ps u v hu hv can =
    leads_one (decimal u ++ (codes " " ++ decimal v)) (edge u v) (edges_read k allocated (suc n) ps) (edges_read k allocated n (ps ++ (u, v) ∷ []))
    (uncut_both (decimal u) (codes " " ++ decimal v) (uncut_decimal u hu) (uncut_both (codes " ") (decimal v) (uncut_above (codes " ") refl) (uncut_decimal v hv)))
    (edge_says u v hu hv) (edge_taken k allocated n ps u v can)

module _ (g : Graph) (k : ℕ) (w : IsGraph g) (few : length g.allocated ≤ 4294967295) where
  abbrev edges_left : ℕ → ℕ → Reading
  edges_left u v = edges_read k g.allocated (length (pairs_below g (length g.allocated)) - length (pairs_to g u v)) (pairs_to g u v)

  abbrev edge_line_at : ℕ → ℕ → List ℕ
  edge_line_at u v = if has_edge g u v then edge_line u v else []

  -- one more fits
  one_left : (u v : ℕ) → u < length g.allocated → v < length g.allocated → has_edge g u v ≡ true → length (pairs_to g u v) < length (pairs_below g (length g.allocated))
  one_left u v hu hv h =
      let a = below_rises g (suc u) (length g.allocated) (omega (arith, hu)) in
      let b = from_rises g u (suc v) (length g.allocated) (omega (arith, hv)) in
      let c = ap length (from_on g u v h) in
      let d = length-append (pairs_from g u v) ((u, v) ∷ []) in
      let e = length-append (pairs_below g u) (pairs_from g u v) in
      let f = length-append (pairs_below g u) (pairs_from g u (length g.allocated)) in
      omega (arith, a, b, c, d, e, f)

  can_take : (u v n : ℕ) → has_edge g u v ≡ true → can_take_edge (edges_read k g.allocated n (pairs_to g u v)) u v ≡ true
  can_take u v n h =
      ap (λ b. b && (is_live_in g.allocated v && is_behind (last_of (pairs_to g u v)) u v)) (w.from u v h)
      ∙ ap (λ b. b && is_behind (last_of (pairs_to g u v)) u v) (w.onto u v h) ∙ all_behind g u v

  edge_lead : (u v : ℕ) → u < length g.allocated → v < length g.allocated → Leads (edge_line_at u v) (edges_left u v) (edges_left u (suc v))
  edge_lead u v hu hv = elim (cases_Bool (has_edge g u v)) [
    | inl on ↦
        (let all = length (pairs_below g (length g.allocated)) in
        let one = one_left u v hu hv on in
        let up = ap length (to_on g u v on) in
        let l = length-append (pairs_to g u v) ((u, v) ∷ []) in
        leads_text (edge_line u v) (edge_line_at u v) (edges_left u v) (edges_left u (suc v)) (rw on refl)
        (leads_to (edge_line u v) (edges_read k g.allocated (suc (all - length (pairs_to g u (suc v)))) (pairs_to g u v)) (edges_left u v)
        (edges_read k g.allocated (all - length (pairs_to g u (suc v))) (pairs_to g u v ++ (u, v) ∷ [])) (edges_left u (suc v))
        (ap (λ n. edges_read k g.allocated n (pairs_to g u v)) (let e : suc (all - length (pairs_to g u (suc v))) ≡ all - length (pairs_to g u v) = omega (arith, one, up, l) in e))
        (ap (edges_read k g.allocated (all - length (pairs_to g u (suc v)))) (sym (to_on g u v on)))
        (edge_leads k g.allocated (all - length (pairs_to g u (suc v))) (pairs_to g u v) u v (omega (arith, hu, few)) (omega (arith, hv, few)) (can_take u v (suc (all - length (pairs_to g u (suc v)))) on))))
    | inr off ↦
        leads_text [] (edge_line_at u v) (edges_left u v) (edges_left u (suc v)) (rw off refl)
        (subst (λ es. Leads [] (edges_left u v) (edges_read k g.allocated (length (pairs_below g (length g.allocated)) - length es) es)) (sym (to_off g u v off)) (leads_none (edges_left u v)))
  ]

  edges_from_lead : (u : ℕ) → u < length g.allocated → Leads (edges_from g u) (edges_left u 0) (edges_left (suc u) 0)
  edges_from_lead u h =
      leads_to (edges_from g u) (edges_left u 0) (edges_left u 0) (edges_left u (length g.allocated)) (edges_left (suc u) 0) refl
      (ap (λ es. edges_read k g.allocated (length (pairs_below g (length g.allocated)) - length es) es) (sym (append-nil (pairs_below g (suc u)))))
      (leads_below (edge_line_at u) (edges_left u) (length g.allocated) (λ v l. edge_lead u v h l))

  -- the lines of all edges
  pub edges_lead : Leads (edge_lines g) (edges_read k g.allocated (edge_count g) []) (edges_read k g.allocated 0 (pairs_below g (length g.allocated)))
  edges_lead =
      let all = pairs_below g (length g.allocated) in
      leads_to (edge_lines g) (edges_left 0 0) (edges_read k g.allocated (edge_count g) []) (edges_left (length g.allocated) 0) (edges_read k g.allocated 0 all)
      (ap (λ n. edges_read k g.allocated n []) (let c = edges_counted g w in let e : length all - 0 ≡ edge_count g = omega (arith, c) in e))
      (ap (λ es. edges_read k g.allocated (length all - length es) es) (append-nil all)
      ∙ ap (λ n. edges_read k g.allocated n all) (let e : length all - length all ≡ 0 = omega arith in e))
      (leads_below (edges_from g) (λ u. edges_left u 0) (length g.allocated) edges_from_lead)
