-- Counts of numbers and of pairs, compared one by one.
use Rattle.std.proofs.Common.{◌≡◌, ◌≢◌, ℕ, zero, suc, ◌+◌, ◌-◌, ◌<◌, ◌≤◌, List, [], ◌∷◌, Option, Some, None, is_some, unwrap_or, refl, sym, ◌∙◌, ap, arith, subst, inl, inr, true, false, Bool, not, ◌&&◌, cond, length, map, count_by, true≢false, ltb-true, lt-ltb}
use Rattle.std.specs.Prelude.{nat_eq, nat_lt}
use Rattle.std.specs.FinMap as table
use Rattle.std.specs.Ordering.{eq_by_cmp}
use Rattle.std.specs.List.{list_any}
use Rattle.std.proofs.lemmas.Cmp.{eq_by_cmp_equiv}
use Rattle.std.proofs.lemmas.Bool.{cases_lt, cases_Bool, and_parts, or_left}
use Rattle.std.proofs.lemmas.Bool.Decides.{eqb_tells}
use Rattle.std.proofs.lemmas.List.Sums.{sum_by-cons}
use Rattle.graph_spec.specs.Graphs.{edge_cmp}
use Rattle.graph_spec.proofs.EdgeOrder.{edge_cmp_total, edge_cmp-IsAntisymmetric, eq_pair}
use Rattle.graph_spec.specs.Members.{at}
use Rattle.bisim_spec.specs.Below.{count_below}
use Rattle.bisim_spec.specs.IndexGraphs.{SupportTable, support_at}
use Rattle.bisim_spec.proofs.BelowLaws.{bit_of, count_same}
use Rattle.extent_report.specs.ListedBlocks.{pairs_below}

-- a number that passes is counted once

abbrev but : (ℕ → Bool) → ℕ → ℕ → Bool
but q y z = q z && not (nat_eq z y)

and_true : (a : Bool) → (a && true) ≡ a
and_true true = refl
and_true false = refl

but_other : (q : ℕ → Bool) (y z : ℕ) → z ≢ y → but q y z ≡ q z
but_other q y z other = elim (eqb_tells z y) [
  | inl same ↦ absurd (other same.1)
  | inr apart ↦ ap (λ b. q z && not b) apart.0 ∙ and_true (q z)
]

but_same : (q : ℕ → Bool) (y z : ℕ) → z ≡ y → but q y z ≡ false
but_same q y z e = elim (eqb_tells z y) [
  | inl same ↦ ap (λ b. q z && not b) same.0 ∙ none (q z)
  | inr apart ↦ absurd (apart.1 e)
]
  where
    none : (b : Bool) → (b && false) ≡ false
    none true = refl
    none false = refl

count_without : (n : ℕ) (q : ℕ → Bool) (y : ℕ) → y < n → q y ≡ true → count_below n q ≡ 1 + count_below n (but q y)
count_without zero q y l h = absurd (omega (arith, l))
count_without (suc n) q y l h = elim (cases_lt y n) [
  | inl below ↦ (
      let rest = count_without n q y below h in
      let here : bit_of (but q y n) ≡ bit_of (q n) = ap bit_of (but_other q y n (λ e. absurd (omega (arith, e, below)))) in
      omega (arith, rest, here))
  | inr past ↦ (
      let e : n ≡ y = omega (arith, l, past) in
      let gone : bit_of (but q y n) ≡ 0 = ap bit_of (but_same q y n e) in
      let one : bit_of (q n) ≡ 1 = ap bit_of (ap q e ∙ h) in
      let rest = count_same n q (but q y) (λ k u. sym (but_other q y k (λ d. absurd (omega (arith, d, u, e))))) in
      omega (arith, gone, one, rest))
]

-- Each number that passes is tied to one that passes there, and no two to the same
pub count_into : (n m : ℕ) (p q : ℕ → Bool) (E : ℕ → ℕ → Type 0) → ((x z y : ℕ) → E x y → E z y → x ≡ z)
    → ((x : ℕ) → x < n → p x ≡ true → (y : ℕ) × (y < m) × (q y ≡ true) × E x y) → count_below n p ≤ count_below m q
count_into zero m p q E apart to = omega arith
count_into (suc n) m p q E apart to = elim (cases_Bool (p n)) [
  | inl on ↦ (
      let y = to n (omega arith) on in
      let less = count_without m q y.0 y.1 y.2 in
      let one : bit_of (p n) ≡ 1 = ap bit_of on in
      let rest = count_into n m p (but q y.0) E apart (λ x l h.
      let w = to x (omega (arith, l)) h in
      (w.0, w.1, but_other q y.0 w.0 (λ e. absurd (let same = apart x n y.0 (subst (E x) e w.3) y.3 in omega (arith, same, l))) ∙ w.2, w.3)) in
      omega (arith, less, one, rest))
  | inr off ↦ (
      let none : bit_of (p n) ≡ 0 = ap bit_of off in
      let rest = count_into n m p q E apart (λ x l h. to x (omega (arith, l)) h) in
      omega (arith, none, rest))
]

-- the same of pairs

pairs_same : (n m : ℕ) (p q : ℕ → ℕ → Bool) → ((u v : ℕ) → u < n → v < m → p u v ≡ q u v) → pairs_below n m p ≡ pairs_below n m q
pairs_same zero m p q h = refl
pairs_same (suc n) m p q h =
    let row = count_same m (p n) (q n) (λ v l. h n v (omega arith) l) in
    let rest = pairs_same n m p q (λ u v l k. h u v (omega (arith, l)) k) in
    omega (arith, row, rest)

abbrev but_pair : (ℕ → ℕ → Bool) → ℕ → ℕ → ℕ → ℕ → Bool
but_pair p u v x y = p x y && not (nat_eq x u && nat_eq y v)

in_row : (p : ℕ → ℕ → Bool) (u v x : ℕ) → x ≡ u → (y : ℕ) → but_pair p u v x y ≡ but (p x) v y
in_row p u v x e y = elim (eqb_tells x u) [
  | inl same ↦ ap (λ b. p x y && not (b && nat_eq y v)) same.0
  | inr apart ↦ absurd (apart.1 e)
]

out_row : (p : ℕ → ℕ → Bool) (u v x y : ℕ) → x ≢ u → but_pair p u v x y ≡ p x y
out_row p u v x y other = elim (eqb_tells x u) [
  | inl same ↦ absurd (other same.1)
  | inr apart ↦ ap (λ b. p x y && not (b && nat_eq y v)) apart.0 ∙ and_true (p x y)
]

-- another pair that passes still does
other_pair : (p : ℕ → ℕ → Bool) (u v x y : ℕ) → (x ≡ u → y ≡ v → ⊥) → p x y ≡ true → but_pair p u v x y ≡ true
other_pair p u v x y other h = elim (eqb_tells x u) [
  | inl same ↦ in_row p u v x same.1 y ∙ but_other (p x) v y (λ e. other same.1 e) ∙ h
  | inr apart ↦ out_row p u v x y apart.1 ∙ h
]

pairs_without : (n m : ℕ) (p : ℕ → ℕ → Bool) (u v : ℕ) → u < n → v < m → p u v ≡ true → pairs_below n m p ≡ 1 + pairs_below n m (but_pair p u v)
pairs_without zero m p u v l k h = absurd (omega (arith, l))
pairs_without (suc n) m p u v l k h = elim (cases_lt u n) [
  | inl below ↦ (
      let rest = pairs_without n m p u v below k h in
      let row = count_same m (but_pair p u v n) (p n) (λ y _. out_row p u v n y (λ e. absurd (omega (arith, e, below)))) in
      omega (arith, rest, row))
  | inr past ↦ (
      let e : n ≡ u = omega (arith, l, past) in
      let less = count_without m (p n) v k (ap (λ x. p x v) e ∙ h) in
      let row = count_same m (but_pair p u v n) (but (p n) v) (λ y _. in_row p u v n e y) in
      let rest = pairs_same n m p (but_pair p u v) (λ x y a _. sym (out_row p u v x y (λ d. absurd (omega (arith, d, a, e))))) in
      omega (arith, less, row, rest))
]

-- keys of a table

abbrev pub has_key : SupportTable → ℕ × ℕ → Bool
has_key t k = table.contains_key t k

eq_is : (a b c d : ℕ) → eq_by_cmp edge_cmp (a, b) (c, d) ≡ true → (a ≡ c) × (b ≡ d)
eq_is a b c d h =
    let both = and_parts (nat_eq a c) (nat_eq b d) (sym (eq_pair a b c d) ∙ h) in
    (same a c both.0, same b d both.1)
  where
    same : (x y : ℕ) → nat_eq x y ≡ true → x ≡ y
    same x y e = elim (eqb_tells x y) [ inl s ↦ s.1 | inr d ↦ absurd (true≢false (sym e ∙ d.0)) ]

removed : (t : SupportTable) (k q : ℕ × ℕ) → has_key (table.remove t k) q ≡ is_some (cond (eq_by_cmp edge_cmp q k) None (table.get t q))
removed t k q = ap is_some (table.get-remove edge_cmp_total t k q)

other_key : (t : SupportTable) (a b c d : ℕ) → (c ≡ a → d ≡ b → ⊥) → has_key t (c, d) ≡ true → has_key (table.remove t (a, b)) (c, d) ≡ true
other_key t a b c d other h = elim (cases_Bool (eq_by_cmp edge_cmp (c, d) (a, b))) [
  | inl e ↦ absurd (let s = eq_is c d a b e in other s.0 s.1)
  | inr f ↦ removed t (a, b) (c, d) ∙ ap (λ e. is_some (cond e None (table.get t (c, d)))) f ∙ h
]

still_key : (t : SupportTable) (k q : ℕ × ℕ) → has_key (table.remove t k) q ≡ true → (eq_by_cmp edge_cmp q k ≡ false) × (has_key t q ≡ true)
still_key t k q h = elim (cases_Bool (eq_by_cmp edge_cmp q k)) [
  | inl e ↦ absurd (true≢false (sym h ∙ removed t k q ∙ ap (λ e. is_some (cond e None (table.get t q))) e))
  | inr f ↦ (f, sym (removed t k q ∙ ap (λ e. is_some (cond e None (table.get t q))) f) ∙ h)
]

fewer : (t : SupportTable) (k : ℕ × ℕ) → has_key t k ≡ true → table.len t ≡ 1 + table.len (table.remove t k)
fewer t k h =
    let less : table.len (table.remove t k) ≡ table.len t - 1 = table.len-remove edge_cmp_total t k ∙ ap (λ b. cond b (table.len t - 1) (table.len t)) h in
    let some : table.len t ≢ 0 = λ e.
    true≢false (sym h ∙ ap (λ (m : SupportTable). table.contains_key m k) (table.empty_of_len t e) ∙ ap is_some (table.get-empty edge_cmp k)) in
    omega (arith, less, some)

some_key : (t : SupportTable) (es : List ((ℕ × ℕ) × ℕ)) → table.entries t ≡ es → 0 < table.len t → (k : ℕ × ℕ) × (has_key t k ≡ true)
some_key t [] e l = absurd (let none = table.len-entries t ∙ ap length e in omega (arith, none, l))
some_key t (x ∷ es) e l = (
  x.0,
  table.contains_key-keys t x.0 ∙ ap (λ (ys : List ((ℕ × ℕ) × ℕ)). list_any (eq_by_cmp edge_cmp x.0) (map (λ y. y.0) ys)) e
      ∙ or_left (eq_by_cmp edge_cmp x.0 x.0) (list_any (eq_by_cmp edge_cmp x.0) (map (λ y. y.0) es)) ((eq_by_cmp_equiv edge_cmp_total).refl x.0),
)

-- a key of the table that is tied to the pair, part by part
abbrev pub HasTied : SupportTable → (ℕ → ℕ → Type 0) → ℕ → ℕ → Type 0
HasTied t E u v = (a : ℕ) × (b : ℕ) × (has_key t (a, b) ≡ true) × E u a × E v b

-- one row of pairs, and what comes after it
row_into : (n w c : ℕ) (p : ℕ → ℕ → Bool) (m : ℕ) (E : ℕ → ℕ → Type 0) → ((u v a : ℕ) → E u a → E v a → u ≡ v)
    → ((t : SupportTable) → ((u v : ℕ) → u < n → v < m → p u v ≡ true → HasTied t E u v) → c ≤ table.len t)
    → (t : SupportTable) → ((v : ℕ) → v < w → p n v ≡ true → HasTied t E n v) → ((u v : ℕ) → u < n → v < m → p u v ≡ true → HasTied t E u v)
    → count_below w (p n) + c ≤ table.len t
row_into n zero c p m E apart after t row rest = let h = after t rest in omega (arith, h)
row_into n (suc w) c p m E apart after t row rest = elim (cases_Bool (p n w)) [
  | inl on ↦ (
      let k = row w (omega arith) on in
      let one : bit_of (p n w) ≡ 1 = ap bit_of on in
      let less = fewer t (k.0, k.1) k.2 in
      let others = row_into n w c p m E apart after (table.remove t (k.0, k.1))
      (λ v l h. let j = row v (omega (arith, l)) h in
      (j.0, j.1, other_key t k.0 k.1 j.0 j.1 (λ _ e. let same = apart v w k.1 (subst (E v) e j.4) k.4 in omega (arith, same, l)) j.2, j.3, j.4))
      (λ u v l x h. let j = rest u v l x h in
      (j.0, j.1, other_key t k.0 k.1 j.0 j.1 (λ e _. let same = apart u n k.0 (subst (E u) e j.3) k.3 in omega (arith, same, l)) j.2, j.3, j.4)) in
      omega (arith, one, less, others))
  | inr off ↦ (
      let none : bit_of (p n w) ≡ 0 = ap bit_of off in
      let others = row_into n w c p m E apart after t (λ v l h. row v (omega (arith, l)) h) rest in
      omega (arith, none, others))
]

-- Each pair that passes is tied to a key, and no two to the same
pub pairs_into : (n m : ℕ) (p : ℕ → ℕ → Bool) (E : ℕ → ℕ → Type 0) → ((u v a : ℕ) → E u a → E v a → u ≡ v)
    → (t : SupportTable) → ((u v : ℕ) → u < n → v < m → p u v ≡ true → HasTied t E u v) → pairs_below n m p ≤ table.len t
pairs_into zero m p E apart t to = omega arith
pairs_into (suc n) m p E apart t to =
    row_into n m (pairs_below n m p) p m E apart (pairs_into n m p E apart) t (λ v l h. to n v (omega arith) l h) (λ u v l k h. to u v (omega (arith, l)) k h)

tied_to : (k : ℕ × ℕ) (a b : ℕ) → a ≡ k.0 → b ≡ k.1 → eq_by_cmp edge_cmp (a, b) k ≡ true
tied_to k a b s r = sym (ap (eq_by_cmp edge_cmp (a, b)) (λ j. (s j, r j))) ∙ (eq_by_cmp_equiv edge_cmp_total).refl (a, b)

-- Each key is tied to a pair that passes, and no two to the same
pub pairs_over : (c n m : ℕ) (p : ℕ → ℕ → Bool) (E : ℕ → ℕ → Type 0) → ((u a b : ℕ) → E u a → E u b → a ≡ b)
    → (t : SupportTable) → table.len t ≡ c → ((a b : ℕ) → has_key t (a, b) ≡ true → (u : ℕ) × (v : ℕ) × (u < n) × (v < m) × (p u v ≡ true) × E u a × E v b)
    → c ≤ pairs_below n m p
pairs_over zero n m p E apart t e to = omega arith
pairs_over (suc c) n m p E apart t e to =
    let k = some_key t (table.entries t) refl (omega (arith, e)) in
    let a = k.0.0 in
    let b = k.0.1 in
    let x = to a b k.1 in
    let less = pairs_without n m p x.0 x.1 x.2 x.3 x.4 in
    let one = fewer t k.0 k.1 in
    let others = pairs_over c n m (but_pair p x.0 x.1) E apart (table.remove t k.0) (omega (arith, one, e)) (λ d f h.
    let still = still_key t k.0 (d, f) h in
    let y = to d f still.1 in (
      y.0,
      y.1,
      y.2,
      y.3,
      other_pair p x.0 x.1 y.0 y.1 (λ g i.
          let s = apart x.0 d a (subst (λ u. E u d) g y.5) x.5 in
          let r = apart x.1 f b (subst (λ u. E u f) i y.6) x.6 in
          true≢false (sym (tied_to k.0 d f s r) ∙ still.0)) y.4,
      y.5,
      y.6,
    )) in
    omega (arith, less, others)

-- the pairs with support are the keys that count

looked : (t : SupportTable) (a b : ℕ)
    → table.get (table.retain_keys t (λ p. nat_lt 0 (support_at t p.0 p.1))) (a, b) ≡ cond (nat_lt 0 (support_at t a b)) (table.get t (a, b)) None
looked t a b = table.get-retain_keys t (λ p. nat_lt 0 (support_at t p.0 p.1)) (a, b) (λ x e. ap (λ p. nat_lt 0 (support_at t p.0 p.1)) (sym (edge_cmp-IsAntisymmetric (a, b) x e)))

pub kept_key : (t : SupportTable) (a b : ℕ) → 0 < support_at t a b → has_key (table.retain_keys t (λ p. nat_lt 0 (support_at t p.0 p.1))) (a, b) ≡ true
kept_key t a b some = ap is_some (looked t a b) ∙ ap (λ c. is_some (cond c (table.get t (a, b)) None)) (lt-ltb 0 (support_at t a b) some) ∙ by (table.get t (a, b)) some
  where
    by : (o : Option ℕ) → 0 < unwrap_or o 0 → is_some o ≡ true
    by None l = absurd (omega (arith, l))
    by (Some v) l = refl

pub kept_some : (t : SupportTable) (a b : ℕ) → has_key (table.retain_keys t (λ p. nat_lt 0 (support_at t p.0 p.1))) (a, b) ≡ true → 0 < support_at t a b
kept_some t a b h = elim (cases_Bool (nat_lt 0 (support_at t a b))) [
  | inl on ↦ ltb-true 0 (support_at t a b) on
  | inr off ↦ absurd (true≢false (sym h ∙ ap is_some (looked t a b) ∙ ap (λ c. is_some (cond c (table.get t (a, b)) None)) off))
]

-- the places of a list that are taken

count_cons : {X : Type 0} (q : X → Bool) (x : X) (xs : List X) → count_by q (x ∷ xs) ≡ bit_of (q x) + count_by q xs
count_cons q x xs = sum_by-cons (λ y. cond (q y) 1 0) x xs

count_shift : (n : ℕ) (p : ℕ → Bool) → count_below (suc n) p ≡ bit_of (p 0) + count_below n (λ k. p (suc k))
count_shift zero p = omega arith
count_shift (suc n) p = let rest = count_shift n p in omega (arith, rest)

pub taken_places : (xs : List (Option ℕ)) → count_by is_some xs ≡ count_below (length xs) (λ i. is_some (at xs i))
taken_places [] = refl
taken_places (x ∷ xs) =
    let a = count_cons is_some x xs in
    let b = taken_places xs in
    let c = count_shift (length xs) (λ i. is_some (at (x ∷ xs) i)) in
    omega (arith, a, b, c)
