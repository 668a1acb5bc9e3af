-- The edges of a file, and the lists of neighbours that are made of them.
use Rattle.std.proofs.Common.{◌≡◌, ℕ, zero, suc, ◌+◌, ◌<◌, ◌≤◌, ◌⊎◌, List, [], ◌∷◌, map, Option, Some, IsTrue, Bool, true, false, true≢false, nat_eq, nat_lt, refl, sym, ◌∙◌, ap, subst, arith, inl, inr}
use Rattle.std.specs.Prelude.{◌||◌, ◌&&◌, if◌then◌else◌}
use Rattle.std.specs.List.{list_any, IsDistinct, AllByRecursion}
use Rattle.std.specs.Ordering.{eq_by_cmp}
use Rattle.std.specs.FinSet as set
use Rattle.std.proofs.Math.Bool.{and-false, or-false}
use Rattle.std.proofs.lemmas.Bool.{cases_Bool, and_parts, eqb-true, ltb-true, ltb-false, eq-eqb, ne_eqb, lt-ltb}
use Rattle.std.proofs.lemmas.List.{get_or_past}
use Rattle.std.proofs.lemmas.List.Folds.{list_any-append}
use Rattle.graph_spec.specs.Graphs.{edge_cmp}
use Rattle.graph_spec.specs.Members.{has}
use Rattle.graph_spec.proofs.EdgeOrder.{edge_cmp_total, edge_cmp-IsAntisymmetric, eq_pair}
use Rattle.label_graph.proofs.EdgeLists.{and_comm}
use Rattle.bisim_spec.specs.declared.sides.Side.TheVariants.{Parents, Children}
use Rattle.adjacency.specs.Rows.{row, rows_of, edges_in}
use Rattle.adjacency.specs.Targets.{targets_of, from_own, BeginBelow}
use Rattle.adjacency.proofs.RowLaws.{row_first, rows_count}
use Rattle.index_file.specs.SavedFiles.{edges_of}
use Rattle.index_file.specs.Readings.{is_behind, is_live_in}
use Rattle.index_file.specs.ReadEdges.{RiseBehind, JoinLive}

-- whether the edge from u to v is one of them
abbrev pub is_among : List (ℕ × ℕ) → ℕ → ℕ → Bool
is_among es u v = list_any (eq_by_cmp edge_cmp (u, v)) es

pub edges_are : (es : List (ℕ × ℕ)) (u v : ℕ) → set.contains (edges_of es) (u, v) ≡ is_among es u v
edges_are [] u v = set.contains-empty edge_cmp (u, v)
edges_are (e ∷ es) u v = set.contains-insert edge_cmp_total (edges_of es) e (u, v) ∙ ap (λ b. eq_by_cmp edge_cmp (u, v) e || b) (edges_are es u v)

eqb_turned : (n m : ℕ) → nat_eq n m ≡ nat_eq m n
eqb_turned n m = elim (cases_Bool (nat_eq n m)) [
  | inl on ↦ on ∙ sym (eq-eqb m n (sym (eqb-true n m on)))
  | inr off ↦ off ∙ sym (elim (cases_Bool (nat_eq m n)) [
    | inl on ↦ absurd (true≢false (sym (eq-eqb n m (sym (eqb-true m n on))) ∙ off))
    | inr none ↦ none
  ])
]

-- where the edges lead from a node
one_target : (b : Bool) (x v : ℕ) (xs : List ℕ) (c : Bool) → list_any (nat_eq v) xs ≡ c → list_any (nat_eq v) (if b then x ∷ xs else xs) ≡ ((b && nat_eq v x) || c)
one_target true x v xs c h = ap (λ d. nat_eq v x || d) h
one_target false x v xs c h = h

pub children_are : (es : List (ℕ × ℕ)) (u v : ℕ) → has (targets_of es u) v ≡ is_among es u v
children_are [] u v = refl
children_are (e ∷ es) u v =
    one_target (nat_eq e.0 u) e.1 v (targets_of es u) (is_among es u v) (children_are es u v)
    ∙ ap (λ b. (b && nat_eq v e.1) || is_among es u v) (eqb_turned e.0 u) ∙ ap (λ b. b || is_among es u v) (sym (eq_pair u v e.0 e.1))

pub parents_are : (es : List (ℕ × ℕ)) (u v : ℕ) → has (targets_of (from_own Parents es) v) u ≡ is_among es u v
parents_are [] u v = refl
parents_are (e ∷ es) u v =
    one_target (nat_eq e.1 v) e.0 u (targets_of (from_own Parents es) v) (is_among es u v) (parents_are es u v)
    ∙ ap (λ b. (b && nat_eq u e.0) || is_among es u v) (eqb_turned e.1 v)
    ∙ ap (λ b. b || is_among es u v) (and_comm (nat_eq v e.1) (nat_eq u e.0) ∙ sym (eq_pair u v e.0 e.1))

pub own_children : (es : List (ℕ × ℕ)) → from_own Children es ≡ es
own_children [] = refl
own_children (e ∷ es) = ap (λ xs. e ∷ xs) (own_children es)

-- no edge begins past the size
targets_none : (es : List (ℕ × ℕ)) (size n : ℕ) → BeginBelow size es → size ≤ n → targets_of es n ≡ []
targets_none [] size n below h = refl
targets_none (e ∷ es) size n below h =
    let first : e.0 < size = below 0 (omega arith) in
    ap (λ b. if b then e.1 ∷ targets_of es n else targets_of es n) (ne_eqb e.0 n (λ same. omega (arith, first, h, same)))
    ∙ targets_none es size n (λ j l. below (suc j) (omega (arith, l))) h

pub row_all : (es : List (ℕ × ℕ)) (size n : ℕ) → BeginBelow size es → row (rows_of (targets_of es) 0 size) n ≡ targets_of es n
row_all es size n below = elim (cases_Bool (nat_lt n size)) [
  | inl on ↦ row_first (targets_of es) size n (ltb-true n size on)
  | inr off ↦
      (let past = ltb-false n size off in
      let count = rows_count (targets_of es) 0 size in
      get_or_past (rows_of (targets_of es) 0 size) n [] (omega (arith, past, count)) ∙ sym (targets_none es size n below past))
]

-- the edges of rows
and_or : (x y z : Bool) → ((x && y) || (x && z)) ≡ (x && (y || z))
and_or true y z = refl
and_or false y z = refl

row_has : (u v a : ℕ) (ws : List ℕ) → is_among (map (λ w. (a, w)) ws) u v ≡ (nat_eq u a && has ws v)
row_has u v a [] = sym (and-false (nat_eq u a))
row_has u v a (w ∷ ws) =
    ap (λ x. x || is_among (map (λ w. (a, w)) ws) u v) (eq_pair u v a w) ∙ ap (λ x. (nat_eq u a && nat_eq v w) || x) (row_has u v a ws)
    ∙ and_or (nat_eq u a) (nat_eq v w) (has ws v)

none_before : (u v k : ℕ) (rows : List (List ℕ)) → u < k → is_among (edges_in k rows) u v ≡ false
none_before u v k [] h = refl
none_before u v k (r ∷ rows) h =
    list_any-append (eq_by_cmp edge_cmp (u, v)) (map (λ w. (k, w)) r) (edges_in (suc k) rows)
    ∙ ap (λ b. b || is_among (edges_in (suc k) rows) u v) (row_has u v k r ∙ ap (λ b. b && has r v) (ne_eqb u k (λ e. omega (arith, e, h))))
    ∙ none_before u v (suc k) rows (omega (arith, h))

pub rows_are : (k i v : ℕ) (rows : List (List ℕ)) (u : ℕ) → u ≡ k + i → is_among (edges_in k rows) u v ≡ has (row rows i) v
rows_are k i v [] u e = refl
rows_are k zero v (r ∷ rows) u e =
    list_any-append (eq_by_cmp edge_cmp (u, v)) (map (λ w. (k, w)) r) (edges_in (suc k) rows)
    ∙ ap (λ b. is_among (map (λ w. (k, w)) r) u v || b) (none_before u v (suc k) rows (omega (arith, e)))
    ∙ or-false _
    ∙ row_has u v k r
    ∙ ap (λ b. b && has r v) (eq-eqb u k (omega (arith, e)))
rows_are k (suc i) v (r ∷ rows) u e =
    list_any-append (eq_by_cmp edge_cmp (u, v)) (map (λ w. (k, w)) r) (edges_in (suc k) rows)
    ∙ ap (λ b. b || is_among (edges_in (suc k) rows) u v) (row_has u v k r ∙ ap (λ b. b && has r v) (ne_eqb u k (λ s. omega (arith, e, s))))
    ∙ rows_are (suc k) i v rows u (omega (arith, e))

-- the edges of the rows of children are those that the rows are made of
pub same_edges : (es : List (ℕ × ℕ)) (size : ℕ) → BeginBelow size es → edges_of (edges_in 0 (rows_of (targets_of es) 0 size)) ≡ edges_of es
same_edges es size below =
    let rows = rows_of (targets_of es) 0 size in
    set.same_set edge_cmp_total edge_cmp-IsAntisymmetric (edges_of (edges_in 0 rows)) (edges_of es) (λ q.
    edges_are (edges_in 0 rows) q.0 q.1 ∙ rows_are 0 q.0 q.1 rows q.0 (omega arith) ∙ ap (λ r. has r q.1) (row_all es size q.0 below)
    ∙ children_are es q.0 q.1 ∙ sym (edges_are es q.0 q.1))

-- one edge stands behind another
abbrev Less : ℕ × ℕ → ℕ × ℕ → Type 0
Less e f = (e.0 < f.0) ⊎ ((e.0 ≡ f.0) × (e.1 < f.1))

behind_less : (e f : ℕ × ℕ) → is_behind (Some e) f.0 f.1 ≡ true → Less e f
behind_less e f h = elim (cases_Bool (nat_lt e.0 f.0)) [
  | inl on ↦ inl (ltb-true e.0 f.0 on)
  | inr off ↦
      (let p = and_parts (nat_eq e.0 f.0) (nat_lt e.1 f.1) (subst (λ b. (b || (nat_eq e.0 f.0 && nat_lt e.1 f.1)) ≡ true) off h) in
      inr (eqb-true e.0 f.0 p.0, ltb-true e.1 f.1 p.1))
]

or_true : (b : Bool) → (b || true) ≡ true
or_true true = refl
or_true false = refl

less_behind : (e f : ℕ × ℕ) → Less e f → is_behind (Some e) f.0 f.1 ≡ true
less_behind e f (inl l) = ap (λ b. b || (nat_eq e.0 f.0 && nat_lt e.1 f.1)) (lt-ltb e.0 f.0 l)
less_behind e f (inr p) =
    ap (λ b. nat_lt e.0 f.0 || (b && nat_lt e.1 f.1)) (eq-eqb e.0 f.0 p.0) ∙ ap (λ b. nat_lt e.0 f.0 || b) (lt-ltb e.1 f.1 p.1) ∙ or_true (nat_lt e.0 f.0)

less_trans : (e f g : ℕ × ℕ) → Less e f → Less f g → Less e g
less_trans e f g (inl l) (inl m) = inl (omega (arith, l, m))
less_trans e f g (inl l) (inr m) = inl (let s = m.0 in omega (arith, l, s))
less_trans e f g (inr l) (inl m) = inl (let s = l.0 in omega (arith, s, m))
less_trans e f g (inr l) (inr m) = inr (l.0 ∙ m.0, (let a = l.1 in let b = m.1 in omega (arith, a, b)))

rise_past : (e f : ℕ × ℕ) (es : List (ℕ × ℕ)) → Less e f → RiseBehind (Some f) es → RiseBehind (Some e) es
rise_past e f [] l rise = tt
rise_past e f (g ∷ es) l rise = (less_behind e g (less_trans e f g l (behind_less f g rise.0)), rise.1)

child_apart : (e : ℕ × ℕ) (es : List (ℕ × ℕ)) → RiseBehind (Some e) es → AllByRecursion (λ y. nat_eq e.1 y ≡ false) (targets_of es e.0)
child_apart e [] rise = tt
child_apart e (f ∷ es) rise =
    let l = behind_less e f rise.0 in
    let rest = child_apart e es (rise_past e f es l rise.1) in
    elim (cases_Bool (nat_eq f.0 e.0)) [
      | inl on ↦ rw on ((ne_eqb e.1 f.1 (other (eqb-true f.0 e.0 on) l)), rest)
      | inr off ↦ rw off rest
    ]
  where
    other : f.0 ≡ e.0 → Less e f → e.1 ≡ f.1 → ⊥
    other same (inl l) s = omega (arith, same, l)
    other same (inr p) s = (let l = p.1 in omega (arith, l, s))

parent_apart : (e : ℕ × ℕ) (es : List (ℕ × ℕ)) → RiseBehind (Some e) es → AllByRecursion (λ y. nat_eq e.0 y ≡ false) (targets_of (from_own Parents es) e.1)
parent_apart e [] rise = tt
parent_apart e (f ∷ es) rise =
    let l = behind_less e f rise.0 in
    let rest = parent_apart e es (rise_past e f es l rise.1) in
    elim (cases_Bool (nat_eq f.1 e.1)) [
      | inl on ↦ rw on ((ne_eqb e.0 f.0 (other (eqb-true f.1 e.1 on) l)), rest)
      | inr off ↦ rw off rest
    ]
  where
    other : f.1 ≡ e.1 → Less e f → e.0 ≡ f.0 → ⊥
    other same (inl l) s = omega (arith, l, s)
    other same (inr p) s = (let l = p.1 in omega (arith, l, same))

-- each neighbour is listed once
pub children_once : (last : Option (ℕ × ℕ)) (es : List (ℕ × ℕ)) (u : ℕ) → RiseBehind last es → IsDistinct nat_eq (targets_of es u)
unfolding IsDistinct
children_once last [] u rise = tt
children_once last (e ∷ es) u rise = elim (cases_Bool (nat_eq e.0 u)) [
  | inl on ↦ rw on (subst (λ n. AllByRecursion (λ y. nat_eq e.1 y ≡ false) (targets_of es n)) (eqb-true e.0 u on) (child_apart e es rise.1), children_once (Some e) es u rise.1)
  | inr off ↦ rw off (children_once (Some e) es u rise.1)
]

pub parents_once : (last : Option (ℕ × ℕ)) (es : List (ℕ × ℕ)) (v : ℕ) → RiseBehind last es → IsDistinct nat_eq (targets_of (from_own Parents es) v)
unfolding IsDistinct
parents_once last [] v rise = tt
parents_once last (e ∷ es) v rise = elim (cases_Bool (nat_eq e.1 v)) [
  | inl on ↦
      rw on (subst (λ n. AllByRecursion (λ y. nat_eq e.0 y ≡ false) (targets_of (from_own Parents es) n)) (eqb-true e.1 v on) (parent_apart e es rise.1), parents_once (Some e) es v rise.1)
  | inr off ↦ rw off (parents_once (Some e) es v rise.1)
]

-- and its ends are live
among_live : (allocated : List (Option (List ℕ))) (es : List (ℕ × ℕ)) (u v : ℕ) → JoinLive allocated es → is_among es u v ≡ true → IsTrue (is_live_in allocated u) × IsTrue (is_live_in allocated v)
among_live allocated [] u v join h = absurd (true≢false (sym h))
among_live allocated (e ∷ es) u v join h = elim (cases_Bool (eq_by_cmp edge_cmp (u, v) e)) [
  | inl on ↦
      (let p = and_parts (nat_eq u e.0) (nat_eq v e.1) (sym (eq_pair u v e.0 e.1) ∙ on) in (
        subst (λ n. IsTrue (is_live_in allocated n)) (sym (eqb-true u e.0 p.0)) join.0,
        subst (λ n. IsTrue (is_live_in allocated n)) (sym (eqb-true v e.1 p.1)) join.1,
      ))
  | inr off ↦ among_live allocated es u v join.2 (subst (λ b. (b || is_among es u v) ≡ true) off h)
]

pub edge_live : (allocated : List (Option (List ℕ))) (es : List (ℕ × ℕ)) (u v : ℕ) → JoinLive allocated es → IsTrue (set.contains (edges_of es) (u, v))
    → IsTrue (is_live_in allocated u) × IsTrue (is_live_in allocated v)
edge_live allocated es u v join h = among_live allocated es u v join (sym (edges_are es u v) ∙ h)
