-- How marks spread over a row.
use Rattle.std.proofs.Common.{◌≡◌, ℕ, zero, suc, take, eqb, eq-eqb, eqb-true, ◌+◌, ◌<◌, ◌⊎◌, inl, inr, List, [], ◌∷◌, ◌++◌, length, refl, sym, ap, ◌∙◌, subst, arith, get_or, set, true, false, Bool, cond, length-set, get_or-set_same, get_or-set_other, IsTrue}
use Rattle.std.proofs.lemmas.Bool.{cases_eq, or_cases, or_left, or_right}
use Rattle.std.proofs.lemmas.List.{length_push, set-get_or}
use Rattle.std.proofs.lemmas.List.Folds.{list_any_at}
use Rattle.std.proofs.lemmas.List.Sums.{sum_by-set}
use Rattle.graph_spec.specs.Members.{has}
use Rattle.path_automaton.specs.MarkRows.{IsSet, row_members}
use Rattle.path_automaton.specs.NewMarks.{Gathers, Gains}

-- a number that stands there is in the list
pub has_there : (xs : List ℕ) (i : ℕ) → i < length xs → has xs (get_or xs i 0) ≡ true
has_there xs i h = list_any_at (eqb (get_or xs i 0)) xs i 0 h (eq-eqb (get_or xs i 0) (get_or xs i 0) refl)

-- of one place more
pub take_cases : (xs : List ℕ) (i v : ℕ) → i < length xs → has (take (i + 1) xs) v ≡ true → (has (take i xs) v ≡ true) ⊎ (v ≡ get_or xs i 0)
take_cases xs i v h e = cases xs i v h (subst (λ n. has (take n xs) v ≡ true) (one_more i) e)
  where
    one_more : (i : ℕ) → i + 1 ≡ suc i
    one_more i = omega arith

    cases : (xs : List ℕ) (i v : ℕ) → i < length xs → has (take (suc i) xs) v ≡ true → (has (take i xs) v ≡ true) ⊎ (v ≡ get_or xs i 0)
    cases [] i v h e = absurd (omega arith)
    cases (x ∷ xs) zero v h e = elim (or_cases (eqb v x) false e) [ inl same ↦ inr (eqb-true v x same) | inr none ↦ inl none ]
    cases (x ∷ xs) (suc i) v h e = elim (or_cases (eqb v x) (has (take (suc i) xs) v) e) [
      | inl same ↦ inl (or_left (eqb v x) (has (take i xs) v) same)
      | inr more ↦ elim (cases xs i v (omega arith) more) [ inl old ↦ inl (or_right (eqb v x) (has (take i xs) v) old) | inr new ↦ inr new ]
    ]

-- of one number more at the end
has_last : (xs : List ℕ) (v : ℕ) → has (xs ++ v ∷ []) v ≡ true
has_last [] v = or_left (eqb v v) false (eq-eqb v v refl)
has_last (x ∷ xs) v = or_right (eqb v x) (has (xs ++ v ∷ []) v) (has_last xs v)

has_more : (xs : List ℕ) (v n : ℕ) → has xs n ≡ true → has (xs ++ v ∷ []) n ≡ true
has_more [] v n h = absurd (cc)
has_more (x ∷ xs) v n h = elim (or_cases (eqb n x) (has xs n) h) [
  | inl same ↦ or_left (eqb n x) (has (xs ++ v ∷ []) n) same
  | inr old ↦ or_right (eqb n x) (has (xs ++ v ∷ []) n) (has_more xs v n old)
]

has_cases : (xs : List ℕ) (v n : ℕ) → has (xs ++ v ∷ []) n ≡ true → (has xs n ≡ true) ⊎ (n ≡ v)
has_cases [] v n h = elim (or_cases (eqb n v) false h) [ inl same ↦ inr (eqb-true n v same) | inr none ↦ inl none ]
has_cases (x ∷ xs) v n h = elim (or_cases (eqb n x) (has (xs ++ v ∷ []) n) h) [
  | inl same ↦ inl (or_left (eqb n x) (has xs n) same)
  | inr more ↦ elim (has_cases xs v n more) [ inl old ↦ inl (or_right (eqb n x) (has xs n) old) | inr here ↦ inr here ]
]

pub gathers_none : (P : ℕ → Type 0) (m : List Bool) (w : List ℕ) → Gathers P m m w w
gathers_none P m w = record {
  wide = refl;
  grows = λ v h. h;
  fresh = λ v h. inl h;
  kept = λ v h. h;
  source = λ v h. inl h;
  counted = refl;
  more = omega arith;
}

pub gathers_as : (P Q : ℕ → Type 0) (m m2 : List Bool) (w w2 : List ℕ) → ((v : ℕ) → P v → Q v) → Gathers P m m2 w w2 → Gathers Q m m2 w w2
gathers_as P Q m m2 w w2 to a = record {
  wide = a.wide;
  grows = a.grows;
  fresh = λ v h. elim (a.fresh v h) [ inl old ↦ inl old | inr p ↦ inr (to v p.0, p.1) ];
  kept = a.kept;
  source = λ v h. elim (a.source v h) [ inl old ↦ inl old | inr r ↦ inr (to v r.0, r.1) ];
  counted = a.counted;
  more = a.more;
}

pub gathers_then : (P : ℕ → Type 0) (m m2 m3 : List Bool) (w w2 w3 : List ℕ) → Gathers P m m2 w w2 → Gathers P m2 m3 w2 w3 → Gathers P m m3 w w3
gathers_then P m m2 m3 w w2 w3 a b =
    let c1 = a.counted in
    let c2 = b.counted in
    let m1 = a.more in
    let m4 = b.more in
    record {
      wide = b.wide ∙ a.wide;
      grows = λ v h. b.grows v (a.grows v h);
      fresh = λ v h. elim (b.fresh v h) [
        | inl mid ↦ elim (a.fresh v mid) [ inl old ↦ inl old | inr p ↦ inr (p.0, b.kept v p.1) ]
        | inr p ↦ inr p
      ];
      kept = λ v h. b.kept v (a.kept v h);
      source = λ v h. elim (b.source v h) [
        | inl mid ↦ elim (a.source v mid) [ inl old ↦ inl old | inr r ↦ inr (r.0, b.grows v r.1) ]
        | inr r ↦ inr r
      ];
      counted = omega arith;
      more = omega arith;
    }

row_more : (flags : List Bool) (v : ℕ) → v < length flags → get_or flags v false ≡ false → row_members (set flags v true) ≡ row_members flags + 1
unfolding row_members
row_more flags v h new =
    let one : Bool → ℕ = λ b. cond b 1 0 in
    let e : row_members (set flags v true) + one (get_or flags v false) ≡ row_members flags + 1 = sum_by-set one flags v true false h in
    let f : one (get_or flags v false) ≡ 0 = ap one new in
    omega arith

-- a place that wasn't marked
pub gathers_new : (m : List Bool) (w : List ℕ) (v : ℕ) → v < length m → get_or m v false ≡ false → Gathers (λ n. n ≡ v) m (set m v true) w (w ++ v ∷ [])
gathers_new m w v within new =
    let count = row_more m v within new in
    record {
      wide = length-set m v true;
      grows = λ n h. elim (cases_eq n v) [
        | inl here ↦ subst (λ x. IsSet (set m v true) x) (sym here) (get_or-set_same m v true false within)
        | inr other ↦ get_or-set_other m v n true false other ∙ h
      ];
      fresh = λ n h. elim (cases_eq n v) [
        | inl here ↦ inr (here, subst (λ x. IsTrue (has (w ++ v ∷ []) x)) (sym here) (has_last w v))
        | inr other ↦ inl (sym (get_or-set_other m v n true false other) ∙ h)
      ];
      kept = λ n h. has_more w v n h;
      source = λ n h. elim (has_cases w v n h) [
        | inl old ↦ inl old
        | inr here ↦ inr (here, subst (λ x. IsSet (set m v true) x) (sym here) (get_or-set_same m v true false within))
      ];
      counted = omega (arith, count, length_push w v);
      more = omega (arith, count);
    }

-- a place that was
pub gathers_old : (m : List Bool) (w : List ℕ) (v : ℕ) → get_or m v false ≡ true → Gathers (λ n. n ≡ v) m (set m v true) w w
gathers_old m w v old = subst (λ x. Gathers (λ n. n ≡ v) m x w w) (sym (ap (set m v) (sym old) ∙ set-get_or m v false)) (gathers_none (λ n. n ≡ v) m w)

-- what is put in first, and what is put in then
pub gains_then : (P Q R : ℕ → Type 0) (xs ys zs : List ℕ) → ((v : ℕ) → R v → P v ⊎ Q v) → ((v : ℕ) → P v → R v) → ((v : ℕ) → Q v → R v)
    → Gains xs ys P → Gains ys zs Q → Gains xs zs R
gains_then P Q R xs ys zs cases first then a b v = (
  λ h. elim ((b v).0 h) [
    | inl mid ↦ elim ((a v).0 mid) [ inl old ↦ inl old | inr p ↦ inr (first v p) ]
    | inr q ↦ inr (then v q)
  ],
  λ h. elim h [
    | inl old ↦ (b v).1 (inl ((a v).1 (inl old)))
    | inr r ↦ elim (cases v r) [ inl p ↦ (b v).1 (inl ((a v).1 (inr p))) | inr q ↦ (b v).1 (inr q) ]
  ],
)

-- one more place is read
pub take_there : (xs : List ℕ) (i v : ℕ) → i < length xs → (has (take i xs) v ≡ true) ⊎ (v ≡ get_or xs i 0) → has (take (i + 1) xs) v ≡ true
take_there xs i v h e = subst (λ n. has (take n xs) v ≡ true) (sym (one_more i)) (there xs i v h e)
  where
    one_more : (i : ℕ) → i + 1 ≡ suc i
    one_more i = omega arith

    there : (xs : List ℕ) (i v : ℕ) → i < length xs → (has (take i xs) v ≡ true) ⊎ (v ≡ get_or xs i 0) → has (take (suc i) xs) v ≡ true
    there [] i v h e = absurd (omega arith)
    there (x ∷ xs) zero v h (inl none) = absurd (cc)
    there (x ∷ xs) zero v h (inr same) = or_left (eqb v x) false (eq-eqb v x same)
    there (x ∷ xs) (suc i) v h (inl e) = elim (or_cases (eqb v x) (has (take i xs) v) e) [
      | inl same ↦ or_left (eqb v x) (has (take (suc i) xs) v) same
      | inr old ↦ or_right (eqb v x) (has (take (suc i) xs) v) (there xs i v (omega arith) (inl old))
    ]
    there (x ∷ xs) (suc i) v h (inr same) = or_right (eqb v x) (has (take (suc i) xs) v) (there xs i v (omega arith) (inr same))
