-- How marks spread over pairs.
use Rattle.std.proofs.Common.{◌≡◌, ℕ, suc, false, ◌+◌, ◌-◌, ◌*◌, ◌<◌, ◌≤◌, length-set, ◌⊎◌, inl, inr, List, [], ◌∷◌, ◌++◌, length, refl, sym, ap, ◌∙◌, subst, arith, get_or, set, Bool, get_or-set_same, get_or-set_other, true, true≢false}
use Rattle.std.proofs.lemmas.Bool.{cases_eq, cases_lt, or_cases, or_left, or_right}
use Rattle.std.proofs.lemmas.List.{length-append, get_or_past}
use Rattle.std.proofs.lemmas.List.Sums.{sum_by-set, count_by-le-length, sum_by-le-sum_by}
use Rattle.std.proofs.Common.{eqb, eq-eqb, eqb-true}
use Rattle.graph_spec.specs.Members.{has}
use Rattle.path_automaton.specs.MarkRows.{row, IsMarked, row_members, members, pairs, HasRows}
use Rattle.path_automaton.specs.ListedPairs.{all_at, Among}
use Rattle.path_automaton.specs.NewMarks.{Gathers, SpreadsOver}

pub among_more : (ps qs : List (ℕ × ℕ)) (s v : ℕ) → Among ps s v → Among (ps ++ qs) s v
among_more [] qs s v h = absurd h
among_more (p ∷ ps) qs s v (inl h) = inl h
among_more (p ∷ ps) qs s v (inr h) = inr (among_more ps qs s v h)

pub among_back : (ps qs : List (ℕ × ℕ)) (s v : ℕ) → Among qs s v → Among (ps ++ qs) s v
among_back [] qs s v h = h
among_back (p ∷ ps) qs s v h = inr (among_back ps qs s v h)

pub among_cases : (ps qs : List (ℕ × ℕ)) (s v : ℕ) → Among (ps ++ qs) s v → Among ps s v ⊎ Among qs s v
among_cases [] qs s v h = inr h
among_cases (p ∷ ps) qs s v (inl h) = inl (inl h)
among_cases (p ∷ ps) qs s v (inr h) = elim (among_cases ps qs s v h) [ inl a ↦ inl (inr a) | inr b ↦ inr b ]

-- the pairs of one state
pub among_at : (s v : ℕ) (places : List ℕ) → has places v ≡ true → Among (all_at s places) s v
among_at s v [] h = absurd (true≢false (sym h))
among_at s v (x ∷ xs) h = elim (or_cases (eqb v x) (has xs v) h) [ inl here ↦ inl (refl, sym (eqb-true v x here)) | inr more ↦ inr (among_at s v xs more) ]

pub at_among : (s t v : ℕ) (places : List ℕ) → Among (all_at s places) t v → (t ≡ s) × (has places v ≡ true)
at_among s t v [] h = absurd h
at_among s t v (x ∷ xs) (inl h) = (sym h.0, or_left (eqb v x) (has xs v) (eq-eqb v x (sym h.1)))
at_among s t v (x ∷ xs) (inr h) = (let m = at_among s t v xs h in (m.0, or_right (eqb v x) (has xs v) m.1))

pub length_at : (s : ℕ) (places : List ℕ) → length (all_at s places) ≡ length places
length_at s [] = refl
length_at s (x ∷ xs) = ap suc (length_at s xs)

pub members_le : (m : List (List Bool)) → members m ≤ pairs m
unfolding members pairs row_members
members_le m = sum_by-le-sum_by row_members length m (λ flags. count_by-le-length (λ b. b) flags)

pub spreads_none : (R : ℕ → ℕ → Type 0) (m : List (List Bool)) (k : List (ℕ × ℕ)) → SpreadsOver R m m k k
spreads_none R m k = record {
  states = refl;
  wide = λ s. refl;
  same_pairs = refl;
  grows = λ s v h. h;
  fresh = λ s v h. inl h;
  kept = λ s v h. h;
  source = λ s v h. inl h;
  counted = refl;
  more = omega arith;
}

pub spreads_as : (R Q : ℕ → ℕ → Type 0) (m m2 : List (List Bool)) (k k2 : List (ℕ × ℕ)) → ((s v : ℕ) → R s v → Q s v) → SpreadsOver R m m2 k k2 → SpreadsOver Q m m2 k k2
spreads_as R Q m m2 k k2 to a = record {
  states = a.states;
  wide = a.wide;
  same_pairs = a.same_pairs;
  grows = a.grows;
  fresh = λ s v h. elim (a.fresh s v h) [ inl old ↦ inl old | inr p ↦ inr (to s v p.0, p.1) ];
  kept = a.kept;
  source = λ s v h. elim (a.source s v h) [ inl old ↦ inl old | inr r ↦ inr (to s v r.0, r.1) ];
  counted = a.counted;
  more = a.more;
}

pub spreads_then : (R : ℕ → ℕ → Type 0) (m m2 m3 : List (List Bool)) (k k2 k3 : List (ℕ × ℕ)) → SpreadsOver R m m2 k k2 → SpreadsOver R m2 m3 k2 k3 → SpreadsOver R m m3 k k3
spreads_then R m m2 m3 k k2 k3 a b =
    let c1 = a.counted in
    let c2 = b.counted in
    let m1 = a.more in
    let m4 = b.more in
    record {
      states = b.states ∙ a.states;
      wide = λ s. b.wide s ∙ a.wide s;
      same_pairs = b.same_pairs ∙ a.same_pairs;
      grows = λ s v h. b.grows s v (a.grows s v h);
      fresh = λ s v h. elim (b.fresh s v h) [
        | inl mid ↦ elim (a.fresh s v mid) [ inl old ↦ inl old | inr p ↦ inr (p.0, b.kept s v p.1) ]
        | inr p ↦ inr p
      ];
      kept = λ s v h. b.kept s v (a.kept s v h);
      source = λ s v h. elim (b.source s v h) [
        | inl mid ↦ elim (a.source s v mid) [ inl old ↦ inl old | inr r ↦ inr (r.0, b.grows s v r.1) ]
        | inr r ↦ inr r
      ];
      counted = omega arith;
      more = omega arith;
    }

-- the row of one state is written, and what was found is listed
module _ (P : ℕ → Type 0) (m : List (List Bool)) (k : List (ℕ × ℕ)) (s : ℕ) (flags : List Bool) (found : List ℕ) (there : s < length m) (a : Gathers P (row m s) flags [] found) where
  row_same : row (set m s flags) s ≡ flags
  row_same = get_or-set_same m s flags [] there

  pub row_marked : (v : ℕ) → get_or flags v false ≡ true → IsMarked (set m s flags) s v
  row_marked v h = ap (λ r. get_or r v false) row_same ∙ h

  same_length : (x : ℕ) → length (row (set m s flags) x) ≡ length (row m x)
  same_length x = elim (cases_eq x s) [
    | inl same ↦ subst (λ y. length (row (set m s flags) y) ≡ length (row m y)) (sym same) (ap length row_same ∙ a.wide)
    | inr other ↦ ap length (get_or-set_other m s x flags [] other)
  ]

  pub spreads_row : SpreadsOver (λ x v. (x ≡ s) × P v) m (set m s flags) k (k ++ all_at s found)
  unfolding members pairs
  spreads_row =
      let set_members = sum_by-set row_members m s flags [] there in
      let set_pairs = sum_by-set length m s flags [] there in
      let wide = a.wide in
      let counted = a.counted in
      let more = a.more in
      record {
        states = length-set m s flags;
        wide = same_length;
        same_pairs = omega arith;
        grows = λ x v h. elim (cases_eq x s) [
          | inl same ↦ subst (λ y. IsMarked (set m s flags) y v) (sym same) (row_marked v (a.grows v (subst (λ y. IsMarked m y v) same h)))
          | inr other ↦ ap (λ r. get_or r v false) (get_or-set_other m s x flags [] other) ∙ h
        ];
        fresh = λ x v h. elim (cases_eq x s) [
          | inl same ↦ (elim (a.fresh v (sym (ap (λ r. get_or r v false) row_same) ∙ subst (λ y. IsMarked (set m s flags) y v) same h)) [
            | inl old ↦ inl (subst (λ y. IsMarked m y v) (sym same) old)
            | inr p ↦ inr ((same, p.0), subst (λ y. Among (k ++ all_at s found) y v) (sym same) (among_back k (all_at s found) s v (among_at s v found p.1)))
          ])
          | inr other ↦ inl (sym (ap (λ r. get_or r v false) (get_or-set_other m s x flags [] other)) ∙ h)
        ];
        kept = λ x v h. among_more k (all_at s found) x v h;
        source = λ x v h. elim (among_cases k (all_at s found) x v h) [
          | inl old ↦ inl old
          | inr new ↦
              let w = at_among s x v found new in
              (elim (a.source v w.1) [ inl none ↦ absurd (true≢false (sym none)) | inr p ↦ inr ((w.0, p.0), subst (λ y. IsMarked (set m s flags) y v) (sym w.0) (row_marked v p.1)) ])
        ];
        counted = omega (arith, length-append k (all_at s found), length_at s found);
        more = omega arith;
      }

pub wide_on : (states width : ℕ) (m m2 : List (List Bool)) → ((s : ℕ) → length (row m2 s) ≡ length (row m s)) → HasRows states width m → HasRows states width m2
wide_on states width m m2 same h s below = let l = h s below in omega (arith, same s)

-- the measure falls: fewer are listed, and each that is new is marked
pub falls : (k ks k2 n : ℕ) (m m2 l l2 : ℕ) → ks ≡ k + n → 0 < n → k2 + m ≡ k + m2 → m ≤ m2 → l2 ≡ l → m2 ≤ l2 → k2 + 2 * (l2 - m2) < ks + 2 * (l - m)
falls k ks k2 n m m2 l l2 a some b c d e = omega arith

-- the same, as it is known after the calls that write
pub spreads_found : (P : ℕ → Type 0) (m : List (List Bool)) (k k2 : List (ℕ × ℕ)) (s : ℕ) (r flags : List Bool) (w found listed : List ℕ) → s < length m
    → r ≡ row m s → w ≡ [] → listed ≡ found → Gathers P r flags w found → k2 ≡ k ++ all_at s listed → SpreadsOver (λ x v. (x ≡ s) × P v) m (set m s flags) k k2
spreads_found P m k k2 s r flags w found listed there read none same a after =
    subst (λ x. SpreadsOver (λ x v. (x ≡ s) × P v) m (set m s flags) k x) (sym (after ∙ ap (λ x. k ++ all_at s x) same))
    (spreads_row P m k s flags found there (subst (λ x. Gathers P x flags [] found) read (subst (λ x. Gathers P r flags x found) none a)))

-- a state with places has a row
pub row_there : (m : List (List Bool)) (s v : ℕ) → v < length (row m s) → s < length m
row_there m s v h = elim (cases_lt s (length m)) [
  | inl within ↦ within
  | inr past ↦ (let none : length (row m s) ≡ 0 = ap length (get_or_past m s [] past) in absurd (omega arith))
]
