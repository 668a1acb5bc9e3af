-- How pairs are marked and listed.
use Rattle.std.proofs.Common.{◌≡◌, ℕ, zero, suc, ◌+◌, ◌<◌, ◌⊎◌, inl, inr, Bool, true, false, List, [], ◌∷◌, ◌++◌, length, set, length-set, get_or-set_same, get_or-set_other, refl, sym, ap, ◌∙◌, subst, arith, IsTrue, append-nil, append_assoc, true≢false, eqb}
use Rattle.std.proofs.lemmas.Bool.{cases_eq, or_cases, or_left, or_right, eqb-true, eq-eqb, and_parts, and_from}
use Rattle.std.specs.Prelude.{◌&&◌, nat_eq, not}
use Rattle.graph_spec.specs.Members.{has}
use Rattle.px_base.specs.BitSets.{BitSet}
use Rattle.walk_proof.specs.declared.marks.Pair.{Pair}
use Rattle.walk_proof.specs.Marking.{row, IsMarked, Among, HasMarkRows, NotesIn, Notes, IsCleared}

-- without a member a list is empty
pub none_empty : (xs : List ℕ) → ((m : ℕ) → has xs m ≡ false) → xs ≡ []
none_empty [] none = refl
none_empty (x ∷ xs) none = absurd (true≢false (sym (or_left (eqb x x) (has xs x) (eq-eqb x x refl)) ∙ none x))

pub and_none : (b : Bool) → (b && false) ≡ false
and_none true = refl
and_none false = refl

pub among_more : (ps qs : List Pair) (s c : ℕ) → Among ps s c → Among (ps ++ qs) s c
among_more [] qs s c h = absurd h
among_more (p ∷ ps) qs s c (inl h) = inl h
among_more (p ∷ ps) qs s c (inr h) = inr (among_more ps qs s c h)

pub among_back : (ps qs : List Pair) (s c : ℕ) → Among qs s c → Among (ps ++ qs) s c
among_back [] qs s c h = h
among_back (p ∷ ps) qs s c h = inr (among_back ps qs s c h)

pub among_cases : (ps qs : List Pair) (s c : ℕ) → Among (ps ++ qs) s c → Among ps s c ⊎ Among qs s c
among_cases [] qs s c h = inr h
among_cases (p ∷ ps) qs s c (inl h) = inl (inl h)
among_cases (p ∷ ps) qs s c (inr h) = elim (among_cases ps qs s c h) [ inl a ↦ inl (inr a) | inr b ↦ inr b ]

pub among_front : (ps qs : List Pair) → ((more : List Pair) × (qs ≡ ps ++ more)) → (s c : ℕ) → Among ps s c → Among qs s c
among_front ps qs h s c a = subst (λ x. Among x s c) (sym h.1) (among_more ps h.0 s c a)

pub notes_none : (P : ℕ → ℕ → Type 0) (rows : List BitSet) (layer : List Pair) → Notes P rows rows layer layer
notes_none P rows layer = record {
  count = refl;
  sizes = λ s. refl;
  front = ([], sym (append-nil layer));
  grows = λ s c h. h;
  fresh = λ s c h. inl h;
  source = λ s c h. inl h;
}

pub notes_as : (P Q : ℕ → ℕ → Type 0) (rows rows2 : List BitSet) (layer layer2 : List Pair) → ((s c : ℕ) → P s c → Q s c) → Notes P rows rows2 layer layer2 → Notes Q rows rows2 layer layer2
notes_as P Q rows rows2 layer layer2 to a = record {
  count = a.count;
  sizes = a.sizes;
  front = a.front;
  grows = a.grows;
  fresh = a.fresh;
  source = λ s c h. elim (a.source s c h) [ inl old ↦ inl old | inr p ↦ inr (to s c p.0, p.1, p.2) ];
}

pub notes_then : (P : ℕ → ℕ → Type 0) (rows rows2 rows3 : List BitSet) (l l2 l3 : List Pair) → Notes P rows rows2 l l2 → Notes P rows2 rows3 l2 l3 → Notes P rows rows3 l l3
notes_then P rows rows2 rows3 l l2 l3 a b = record {
  count = b.count ∙ a.count;
  sizes = λ s. b.sizes s ∙ a.sizes s;
  front = (a.front.0 ++ b.front.0, b.front.1 ∙ ap (λ x. x ++ b.front.0) a.front.1 ∙ append_assoc l a.front.0 b.front.0);
  grows = λ s c h. b.grows s c (a.grows s c h);
  fresh = λ s c h. elim (b.fresh s c h) [
    | inl mid ↦ elim (a.fresh s c mid) [ inl old ↦ inl old | inr x ↦ inr (among_front l2 l3 b.front s c x) ]
    | inr x ↦ inr x
  ];
  source = λ s c h. elim (b.source s c h) [
    | inl mid ↦ elim (a.source s c mid) [ inl old ↦ inl old | inr p ↦ inr (p.0, p.1, b.grows s c p.2) ]
    | inr p ↦ inr (p.0, λ old. p.1 (a.grows s c old), p.2)
  ];
}

pub wide_on : (P : ℕ → ℕ → Type 0) (states width : ℕ) (rows rows2 : List BitSet) (l l2 : List Pair) → Notes P rows rows2 l l2 → HasMarkRows states width rows → HasMarkRows states width rows2
wide_on P states width rows rows2 l l2 a h = record { count = a.count ∙ h.count; wide = λ s b. a.sizes s ∙ h.wide s b }

abbrev pub no_row : BitSet
no_row = record { size = 0; members = [] }

-- one row is written
module _ (rows : List BitSet) (state : ℕ) (after : BitSet) (there : state < length rows) where
  row_same : row (set rows state after) state ≡ after
  row_same = get_or-set_same rows state after no_row there

  row_other : (s : ℕ) → (s ≡ state → ⊥) → row (set rows state after) s ≡ row rows s
  row_other s other = get_or-set_other rows state s after no_row other

  sizes_same : after.size ≡ (row rows state).size → (s : ℕ) → (row (set rows state after) s).size ≡ (row rows s).size
  sizes_same e s = elim (cases_eq s state) [
    | inl same ↦ subst (λ x. (row (set rows state after) x).size ≡ (row rows x).size) (sym same) (ap (λ r. r.size) row_same ∙ e)
    | inr other ↦ ap (λ r. r.size) (row_other s other)
  ]

  -- what is marked in the row that was written, and in the others
  pub marked_cases : (s c : ℕ) → IsMarked (set rows state after) s c → ((s ≡ state) × IsTrue (has after.members c)) ⊎ ((s ≡ state → ⊥) × IsMarked rows s c)
  marked_cases s c h = elim (cases_eq s state) [
    | inl same ↦ inl (same, subst (λ r. IsTrue (has r.members c)) row_same (subst (λ x. IsMarked (set rows state after) x c) same h))
    | inr other ↦ inr (other, subst (λ r. IsTrue (has r.members c)) (row_other s other) h)
  ]

  pub marked_here : (s c : ℕ) → s ≡ state → IsTrue (has after.members c) → IsMarked (set rows state after) s c
  marked_here s c same h = subst (λ x. IsMarked (set rows state after) x c) (sym same) (subst (λ r. IsTrue (has r.members c)) (sym row_same) h)

  pub marked_there : (s c : ℕ) → (s ≡ state → ⊥) → IsMarked rows s c → IsMarked (set rows state after) s c
  marked_there s c other h = subst (λ r. IsTrue (has r.members c)) (sym (row_other s other)) h

  pub notes_row : (place : ℕ) (l l2 : List Pair) → after.size ≡ (row rows state).size → NotesIn state place (row rows state) after l l2
      → Notes (λ s c. (s ≡ state) × (c ≡ place)) rows (set rows state after) l l2
  notes_row place l l2 size h = record {
    count = length-set rows state after;
    sizes = sizes_same size;
    front = elim h.listed [ inl old ↦ ([], old.1 ∙ sym (append-nil l)) | inr new ↦ (record { state = state; place = place } ∷ [], new.1) ];
    grows = λ s c m. elim (cases_eq s state) [
      | inl same ↦ marked_here s c same (h.members c ∙ or_right (nat_eq c place) (has (row rows state).members c) (subst (λ x. IsMarked rows x c) same m))
      | inr other ↦ marked_there s c other m
    ];
    fresh = λ s c m. elim (marked_cases s c m) [
      | inl a ↦ (elim (or_cases (nat_eq c place) (has (row rows state).members c) (sym (h.members c) ∙ a.1)) [
        | inl e ↦
            let here : c ≡ place = eqb-true c place e in
            (elim h.listed [
              | inl old ↦ inl (subst (λ x. IsMarked rows x c) (sym a.0) (subst (λ x. IsMarked rows state x) (sym here) old.0))
              | inr new ↦ inr (subst (λ x. Among x s c) (sym new.1) (among_back l (record { state = state; place = place } ∷ []) s c (inl (sym a.0, sym here))))
            ])
        | inr was ↦ inl (subst (λ x. IsMarked rows x c) (sym a.0) was)
      ])
      | inr b ↦ inl b.1
    ];
    source = λ s c a. elim h.listed [
      | inl old ↦ inl (subst (λ x. Among x s c) old.1 a)
      | inr new ↦ (elim (among_cases l (record { state = state; place = place } ∷ []) s c (subst (λ x. Among x s c) new.1 a)) [
        | inl old ↦ inl old
        | inr last ↦ (elim last [
          | inl e ↦ inr (
            (sym e.0, sym e.1),
            λ m. true≢false (sym (subst (λ x. IsMarked rows x place) (sym e.0) (subst (λ x. IsMarked rows s x) (sym e.1) m)) ∙ new.0),
            marked_here s c (sym e.0) (h.members c ∙ or_left (nat_eq c place) (has (row rows state).members c) (eq-eqb c place (sym e.1))),
          )
          | inr none ↦ absurd none
        ])
      ])
    ];
  }

  pub note_marked : (place : ℕ) (l l2 : List Pair) → NotesIn state place (row rows state) after l l2 → IsMarked (set rows state after) state place
  note_marked place l l2 h = marked_here state place refl (h.members place ∙ or_left (nat_eq place place) (has (row rows state).members place) (eq-eqb place place refl))

  not_parts : (b : Bool) → not b ≡ true → b ≡ false
  not_parts true h = absurd (true≢false (sym h))
  not_parts false h = refl

  pub cleared_row : (place : ℕ) → after.size ≡ (row rows state).size → ((c : ℕ) → has after.members c ≡ (not (nat_eq c place) && has (row rows state).members c))
      → IsCleared (λ s c. (s ≡ state) × (c ≡ place)) rows (set rows state after)
  cleared_row place size members = record {
    count = length-set rows state after;
    sizes = sizes_same size;
    kept = λ s c m other. elim (cases_eq s state) [
      | inl same ↦ (elim (cases_eq c place) [
        | inl here ↦ absurd (other (same, here))
        | inr apart ↦ marked_here s c same (members c ∙ and_from (not (nat_eq c place)) (has (row rows state).members c) (ap not (differs c place apart)) (subst (λ x. IsMarked rows x c) same m))
      ])
      | inr elsewhere ↦ marked_there s c elsewhere m
    ];
    source = λ s c m. elim (marked_cases s c m) [
      | inl a ↦
          let p = and_parts (not (nat_eq c place)) (has (row rows state).members c) (sym (members c) ∙ a.1) in (
            subst (λ x. IsMarked rows x c) (sym a.0) p.1,
            λ e. true≢false (sym (eq-eqb c place e.1) ∙ not_parts (nat_eq c place) p.0),
          )
      | inr b ↦ (b.1, λ e. b.0 e.0)
    ];
  }
    where
      differs : (c place : ℕ) → (c ≡ place → ⊥) → nat_eq c place ≡ false
      differs c place apart = by (nat_eq c place) refl
        where
          by : (b : Bool) → nat_eq c place ≡ b → b ≡ false
          by true e = absurd (apart (eqb-true c place e))
          by false e = refl

pub cleared_none : (P : ℕ → ℕ → Type 0) (rows : List BitSet) → ((s c : ℕ) → P s c → ⊥) → IsCleared P rows rows
cleared_none P rows none = record { count = refl; sizes = λ s. refl; kept = λ s c m h. m; source = λ s c m. (m, none s c) }

pub cleared_then : (P Q R : ℕ → ℕ → Type 0) (rows rows2 rows3 : List BitSet) → ((s c : ℕ) → R s c → P s c ⊎ Q s c) → ((s c : ℕ) → P s c → R s c) → ((s c : ℕ) → Q s c → R s c)
    → IsCleared P rows rows2 → IsCleared Q rows2 rows3 → IsCleared R rows rows3
cleared_then P Q R rows rows2 rows3 cases left right a b = record {
  count = b.count ∙ a.count;
  sizes = λ s. b.sizes s ∙ a.sizes s;
  kept = λ s c m h. b.kept s c (a.kept s c m (λ p. h (left s c p))) (λ q. h (right s c q));
  source = λ s c m.
      let x = b.source s c m in
      let y = a.source s c x.0 in
      (y.0, λ r. elim (cases s c r) [ inl p ↦ y.1 p | inr q ↦ x.1 q ]);
}

-- a row is put behind others
pub pushed_count : (rows : List BitSet) (r : BitSet) → length (rows ++ r ∷ []) ≡ length rows + 1
pushed_count [] r = refl
pushed_count (x ∷ xs) r = (let e = pushed_count xs r in omega (arith, e))

-- a row of the width is put behind others of it
pub pushed_wide : (rows : List BitSet) (r : BitSet) (w : ℕ) → ((s : ℕ) → s < length rows → (row rows s).size ≡ w) → r.size ≡ w → (s : ℕ) → s < length rows + 1 → (row (rows ++ r ∷ []) s).size ≡ w
pushed_wide [] r w wide e zero l = e
pushed_wide [] r w wide e (suc s) l = absurd (omega (arith, l))
pushed_wide (x ∷ xs) r w wide e zero l = wide zero (omega (arith, l))
pushed_wide (x ∷ xs) r w wide e (suc s) l = pushed_wide xs r w (λ k h. wide (suc k) (omega (arith, h))) e s (omega (arith, l))

-- a row without marks is put behind others
pub pushed_unmarked : (rows : List BitSet) (r : BitSet) → ((s c : ℕ) → IsMarked rows s c → ⊥) → r.members ≡ [] → (s c : ℕ) → IsMarked (rows ++ r ∷ []) s c → ⊥
pushed_unmarked [] r none e zero c m = absurd (true≢false (sym (subst (λ xs. IsTrue (has xs c)) e m)))
pushed_unmarked [] r none e (suc s) c m = absurd (true≢false (sym m))
pushed_unmarked (x ∷ xs) r none e zero c m = none zero c m
pushed_unmarked (x ∷ xs) r none e (suc s) c m = pushed_unmarked xs r (λ k d h. none (suc k) d h) e s c m
