-- Blocks that are chosen for one group after another.
use Rattle.std.proofs.Common.{◌≡◌, ℕ, zero, suc, ◌+◌, ◌<◌, ◌≤◌, ◌⊎◌, List, [], ◌∷◌, ◌++◌, length, Option, Some, None, IsSome, is_some, refl, sym, ◌∙◌, ap, subst, arith, inl, inr, true, false, Bool, cond, slice_get, slice_index, get_or, count_by, true≢false}
use Rattle.std.specs.Prelude.{nat_eq, if◌then◌else◌, ◌&&◌, slice_set}
use Rattle.std.specs.List.{list_all}
use Rattle.std.proofs.lemmas.Bool.{cases_lt, cases_Bool, both_ways, or_left, or_right}
use Rattle.std.proofs.lemmas.Bool.Decides.{eqb_tells, Decides-eqb}
use Rattle.std.proofs.lemmas.List.{get_or_push, get_or_append_left, get_or-set_same, get_or-set_other, length-append}
use Rattle.std.proofs.lemmas.List.Sums.{sum_by-cons}
use Rattle.std.proofs.lemmas.Option.{slice_get-get_or, slice_get_within}
use Rattle.graph_spec.specs.Members.{has, Lists, at, is_this}
use Rattle.block_partition.specs.LabelledPartitions.{Partition, block_count, put, with_block}
use Rattle.bisim_spec.proofs.Bisimilar.{some_of, none_or_some, is_some_at}
use Rattle.block_splitting.specs.Chosen.{HasFirst, AreAllActive, IsKept, IsNotKept, IsPicked, AreChosen, RetainedBelow}
use Rattle.block_splitting.proofs.Lists.{all_get}

-- one more block is counted
count_put : (xs : List (Option ℕ)) (b v : ℕ) → at xs b ≡ None → count_by is_some (put xs b v) ≡ count_by is_some xs + 1
count_put [] zero v e = refl
count_put [] (suc b) v e = count_put [] b v e
count_put (None ∷ xs) zero v e =
    let a : count_by is_some (Some v ∷ xs) ≡ 1 + count_by is_some xs = sum_by-cons (λ (o : Option ℕ). cond (is_some o) 1 0) (Some v) xs in
    let c : count_by {X = Option ℕ} is_some (None ∷ xs) ≡ 0 + count_by is_some xs = sum_by-cons (λ (o : Option ℕ). cond (is_some o) 1 0) None xs in
    omega (arith, a, c)
count_put (Some x ∷ xs) zero v e = absurd (cc)
count_put (x ∷ xs) (suc b) v e =
    let a : count_by is_some (x ∷ put xs b v) ≡ cond (is_some x) 1 0 + count_by is_some (put xs b v) = sum_by-cons (λ (o : Option ℕ). cond (is_some o) 1 0) x (put xs b v) in
    let c : count_by is_some (x ∷ xs) ≡ cond (is_some x) 1 0 + count_by is_some xs = sum_by-cons (λ (o : Option ℕ). cond (is_some o) 1 0) x xs in
    let r = count_put xs b v e in
    omega (arith, a, c, r)

-- a key begins with one number
first_same : (xs ys : List ℕ) (x y : ℕ) → x ∷ xs ≡ y ∷ ys → x ≡ y
first_same xs ys x y e = cc

pub begins_same : (key : List ℕ) (a b : ℕ) → HasFirst key a → HasFirst key b → a ≡ b
begins_same key a b x y = first_same x.around y.around a b (sym x.is ∙ y.is)

-- one more is looked at
pub all_step : (active : ℕ → Bool) (n : ℕ) (first old new : List ℕ) → list_all active old ≡ list_all active first → old ≡ n ∷ new → active n ≡ true → list_all active new ≡ list_all active first
all_step active n first old new before is w = ap (λ b. b && list_all active new) (sym w) ∙ ap (list_all active) (sym is) ∙ before

pub all_stop : (active : ℕ → Bool) (n : ℕ) (first old new : List ℕ) → list_all active old ≡ list_all active first → old ≡ n ∷ new → active n ≡ false → false ≡ list_all active first
all_stop active n first old new before is w = ap (λ b. b && list_all active new) (sym w) ∙ ap (list_all active) (sym is) ∙ before

pub all_done : (active : ℕ → Bool) (first old : List ℕ) → list_all active old ≡ list_all active first → old ≡ [] → true ≡ list_all active first
all_done active first old before is = ap (list_all active) (sym is) ∙ before

this_here : (c : ℕ) → is_this c (Some c) ≡ true
this_here c = elim (eqb_tells c c) [ inl s ↦ s.0 | inr d ↦ absurd (d.1 refl) ]

this_is : (c : ℕ) (o : Option ℕ) → is_this c o ≡ true → o ≡ Some c
this_is c None h = absurd (true≢false (sym h))
this_is c (Some b) h = elim (eqb_tells c b) [ inl s ↦ ap Some (sym s.1) | inr d ↦ absurd (both_ways (nat_eq c b) d.0 h) ]

pub all_from_members : (block : List (Option ℕ)) (active : ℕ → Bool) (b : ℕ) (members : List ℕ) → Lists (λ n. is_this b (at block n)) members → true ≡ list_all active members
    → AreAllActive block active b
all_from_members block active b members l all = record {
  each = λ n e. all_get active members n (sym all) (l.members n ∙ ap (is_this b) e ∙ this_here b);
}

one_out : (p : ℕ → Bool) (xs : List ℕ) → list_all p xs ≡ false → (q : ℕ) × (has xs q ≡ true) × (p q ≡ false)
one_out p [] h = absurd (true≢false h)
one_out p (x ∷ xs) h = elim (cases_Bool (p x)) [
  | inl t ↦ (let r = one_out p xs (ap (λ b. b && list_all p xs) (sym t) ∙ h) in (r.0, or_right (nat_eq r.0 x) (has xs r.0) r.1, r.2))
  | inr f ↦ (x, or_left (nat_eq x x) (has xs x) ((Decides-eqb x x).1 refl), f)
]

pub one_from_members : (block : List (Option ℕ)) (active : ℕ → Bool) (b : ℕ) (members : List ℕ) → Lists (λ n. is_this b (at block n)) members → false ≡ list_all active members
    → (n : ℕ) × (at block n ≡ Some b) × (active n ≡ false)
one_from_members block active b members l all =
    let q = one_out active members (sym all) in
    (q.0, this_is b (at block q.0) (sym (l.members q.0) ∙ q.1), q.2)

pub picked_kept : (p : Partition) (active : ℕ → Bool) (retained : List ℕ) (own k : ℕ) → slice_index retained own ≡ k → AreAllActive p.block_of active own → IsPicked p p active retained own k own
picked_kept p active retained own k keeps all = record {
  nodes = refl;
  stay = λ b h. refl;
  choice = inl (record { same = refl; keeps = keeps; all = all }, refl);
}

pub picked_new : (p q : Partition) (active : ℕ → Bool) (retained : List ℕ) (own k c label : ℕ) → at p.labels own ≡ Some label → at p.labels c ≡ None → q ≡ with_block p c label
    → ((b : ℕ) → at q.labels b ≡ (if nat_eq b c then Some label else at p.labels b)) → IsNotKept p.block_of active retained own k → IsPicked p q active retained own k c
picked_new p q active retained own k c label own_is free is labels not_kept = record {
  nodes = ap (λ (r : Partition). r.block_of) is;
  stay = λ b h. elim (eqb_tells b c) [
    | inl s ↦ absurd (let l = some_of (at p.labels b) h in let e = ap (at p.labels) s.1 in let f = l.1 in cc)
    | inr d ↦ labels b ∙ ap (λ t. if t then Some label else at p.labels b) d.0
  ];
  choice = inr (
    record {
      free = free;
      live = is_some_at (at q.labels c) label label_c;
      label = label_c ∙ sym own_is;
      only = λ b h. elim (eqb_tells b c) [
        | inl s ↦ inr s.1
        | inr d ↦ inl (subst IsSome (labels b ∙ ap (λ t. if t then Some label else at p.labels b) d.0) h)
      ];
      count = ap block_count is ∙ count_put p.labels c label free;
    },
    not_kept,
  );
}
  where
    label_c : at q.labels c ≡ Some label
    label_c = elim (eqb_tells c c) [
      | inl s ↦ labels c ∙ ap (λ t. if t then Some label else at p.labels c) s.0
      | inr d ↦ absurd (d.1 refl)
    ]

pub chosen_none : (p q : Partition) (active : ℕ → Bool) (keys : List (List ℕ)) (retained chosen : List ℕ) → q.block_of ≡ p.block_of → q.labels ≡ p.labels → chosen ≡ []
    → AreChosen p q active keys 0 retained chosen
chosen_none p q active keys retained chosen nodes labels none = record {
  count = ap length none;
  nodes = nodes;
  stay = λ b h. ap (λ (ls : List (Option ℕ)). at ls b) labels;
  live = λ k h. absurd (omega (arith, h));
  each = λ k own key h. absurd (omega (arith, h));
  label = λ k own key h. absurd (omega (arith, h));
  only = λ b h. inl (subst (λ (ls : List (Option ℕ)). IsSome (at ls b)) labels h);
  apart = λ j k h. absurd (omega (arith, h));
  mono = (let e = ap (count_by is_some) labels in omega (arith, e));
  none_new = λ e k own key h. absurd (omega (arith, h));
}

pub chosen_more : (p q r : Partition) (active : ℕ → Bool) (keys : List (List ℕ)) (i own c : ℕ) (retained chosen key : List ℕ)
    → ((k : ℕ) (x : List ℕ) → slice_get keys k ≡ Some x → (o : ℕ) × HasFirst x o × IsSome (at p.labels o)) → AreChosen p q active keys i retained chosen
    → slice_get keys i ≡ Some key → ((n : ℕ) → HasFirst key n → own ≡ n) → IsPicked q r active retained own i c
    → AreChosen p r active keys (i + 1) retained (chosen ++ c ∷ [])
chosen_more p q r active keys i own c retained chosen key keyed w at_i begins picked = record {
  count = length-append chosen (c ∷ []) ∙ ap (λ n. n + 1) w.count;
  nodes = picked.nodes ∙ w.nodes;
  stay = stays_b;
  live = λ k h. elim (cases_lt k i) [
    | inl l ↦ subst (λ x. IsSome (at r.labels x)) (sym (before k l)) (alive (slice_index chosen k) (w.live k l))
    | inr past ↦ (let e : k ≡ i = omega (arith, h, past) in subst (λ x. IsSome (at r.labels x)) (sym (last k e)) live_c)
  ];
  each = λ k o x h e f. elim (cases_lt k i) [
    | inl l ↦ subst (λ z. IsKept p.block_of active retained o k z ⊎ ((at p.labels z ≡ None) × IsNotKept p.block_of active retained o k)) (sym (before k l)) (w.each k o x l e f)
    | inr past ↦ (
        let here : k ≡ i = omega (arith, h, past) in
        let same : x ≡ key = (let a = ap (slice_get keys) here in cc) in
        let number : own ≡ o = begins o (subst (λ z. HasFirst z o) same f) in
        subst (λ z. IsKept p.block_of active retained o k z ⊎ ((at p.labels z ≡ None) × IsNotKept p.block_of active retained o k)) (sym (last k here))
        (subst (λ z. IsKept p.block_of active retained o z c ⊎ ((at p.labels c ≡ None) × IsNotKept p.block_of active retained o z)) (sym here)
        (subst (λ z. IsKept p.block_of active retained z i c ⊎ ((at p.labels c ≡ None) × IsNotKept p.block_of active retained z i)) number choice_c)))
  ];
  label = λ k o x h e f. elim (cases_lt k i) [
    | inl l ↦ ap (at r.labels) (before k l) ∙ picked.stay (slice_index chosen k) (w.live k l) ∙ w.label k o x l e f
    | inr past ↦ (
        let here : k ≡ i = omega (arith, h, past) in
        let same : x ≡ key = (let a = ap (slice_get keys) here in cc) in
        let number : own ≡ o = begins o (subst (λ z. HasFirst z o) same f) in
        ap (at r.labels) (last k here) ∙ label_of_c ∙ ap (at p.labels) number)
  ];
  only = λ b h. elim (onto b h) [
    | inl some ↦ elim (w.only b some) [
      | inl old ↦ inl old
      | inr (k, l, e) ↦ inr (k, omega (arith, l), before k l ∙ e)
    ]
    | inr new ↦ inr (i, omega arith, last i refl ∙ sym new)
  ];
  apart = λ j k hj hk e. elim (cases_lt j i) [
    | inl lj ↦ elim (cases_lt k i) [
      | inl lk ↦ w.apart j k lj lk (sym (before j lj) ∙ e ∙ before k lk)
      | inr pk ↦ (let here : k ≡ i = omega (arith, hk, pk) in absurd (differs j lj (sym (before j lj) ∙ e ∙ last k here)))
    ]
    | inr pj ↦ (
        let here : j ≡ i = omega (arith, hj, pj) in
        elim (cases_lt k i) [
          | inl lk ↦ absurd (differs k lk (sym (before k lk) ∙ sym e ∙ last j here))
          | inr pk ↦ (let there : k ≡ i = omega (arith, hk, pk) in here ∙ sym there)
        ])
  ];
  mono = grows;
  none_new = λ e k o x h f z. elim (cases_lt k i) [
    | inl l ↦ before k l ∙ w.none_new (let a = w.mono in let b = step in omega (arith, a, b, e)) k o x l f z
    | inr past ↦ (
        let here : k ≡ i = omega (arith, h, past) in
        let same : x ≡ key = (let a = ap (slice_get keys) here in cc) in
        let number : own ≡ o = begins o (subst (λ y. HasFirst y o) same z) in
        last k here ∙ elim picked.choice [
          | inl (kept, stays) ↦ kept.same ∙ number
          | inr (new, why) ↦ absurd (let a = w.mono in let b = new.count in omega (arith, a, b, e))
        ])
  ];
}
  where
    count_c : length chosen ≡ i
    count_c = w.count

    before : (k : ℕ) → k < i → slice_index (chosen ++ c ∷ []) k ≡ slice_index chosen k
    before k l = get_or_append_left chosen (c ∷ []) 0 k (let n = count_c in omega (arith, n, l))

    last : (k : ℕ) → k ≡ i → slice_index (chosen ++ c ∷ []) k ≡ c
    last k e = ap (λ x. slice_index (chosen ++ c ∷ []) x) e ∙ get_or_push chosen c 0 i count_c

    the_own : (o : ℕ) × HasFirst key o × IsSome (at p.labels o)
    the_own = keyed i key at_i

    own_live : IsSome (at p.labels own)
    own_live = subst (λ o. IsSome (at p.labels o)) (sym (begins the_own.0 the_own.1)) the_own.2

    alive : (b : ℕ) → IsSome (at q.labels b) → IsSome (at r.labels b)
    alive b h = subst IsSome (sym (picked.stay b h)) h

    was : (b : ℕ) → IsSome (at p.labels b) → IsSome (at q.labels b)
    was b h = subst IsSome (sym (w.stay b h)) h

    stays_b : (b : ℕ) → IsSome (at p.labels b) → at r.labels b ≡ at p.labels b
    stays_b b h = picked.stay b (was b h) ∙ w.stay b h

    live_c : IsSome (at r.labels c)
    live_c = elim picked.choice [
      | inl (kept, stays) ↦ subst (λ x. IsSome (at r.labels x)) (sym kept.same) (alive own (was own own_live))
      | inr (new, why) ↦ new.live
    ]

    label_of_c : at r.labels c ≡ at p.labels own
    label_of_c = elim picked.choice [
      | inl (kept, stays) ↦ ap (at r.labels) kept.same ∙ stays_b own own_live
      | inr (new, why) ↦ new.label ∙ w.stay own own_live
    ]

    onto : (b : ℕ) → IsSome (at r.labels b) → IsSome (at q.labels b) ⊎ (b ≡ c)
    onto b h = elim picked.choice [
      | inl (kept, stays) ↦ inl (subst (λ (z : Partition). IsSome (at z.labels b)) stays h)
      | inr (new, why) ↦ new.only b h
    ]

    choice_c : IsKept p.block_of active retained own i c ⊎ ((at p.labels c ≡ None) × IsNotKept p.block_of active retained own i)
    choice_c = elim picked.choice [
      | inl (kept, stays) ↦ inl (subst (λ bs. IsKept bs active retained own i c) w.nodes kept)
      | inr (new, why) ↦ elim (none_or_some (at p.labels c)) [
        | inl none ↦ inr (none, subst (λ bs. IsNotKept bs active retained own i) w.nodes why)
        | inr (x, some) ↦ absurd (let s = some_of (at q.labels c) (was c (is_some_at (at p.labels c) x some)) in let f = new.free in let g = s.1 in cc)
      ]
    ]

    step : block_count q ≤ block_count r
    step = elim picked.choice [
      | inl (kept, stays) ↦ (let e = ap block_count stays in omega (arith, e))
      | inr (new, why) ↦ (let e = new.count in omega (arith, e))
    ]

    grows : block_count p ≤ block_count r
    grows = let a = w.mono in let b = step in omega (arith, a, b)

    differs : (j : ℕ) → j < i → slice_index chosen j ≡ c → ⊥
    differs j l e = elim picked.choice [
      | inl (kept, stays) ↦ (
          let inside = slice_get_within keys i key at_i in
          let at_j = slice_get-get_or keys j [] (omega (arith, l, inside)) in
          let o = keyed j (get_or keys j []) at_j in
          elim (w.each j o.0 (get_or keys j []) l at_j o.1) [
            | inl other ↦ (
                let a = other.same in
                let b = kept.same in
                let d = kept.keeps in
                let f = other.keeps in
                let own_same : o.0 ≡ own = cc in
                let g = ap (slice_index retained) own_same in
                omega (arith, l, g, d, f))
            | inr (free, why) ↦ (
                let s = some_of (at p.labels own) own_live in
                let b = kept.same in
                let z : slice_index chosen j ≡ own = e ∙ b in
                let y = ap (at p.labels) z in
                let x = s.1 in
                cc)
          ])
      | inr (new, why) ↦ (
          let s = some_of (at q.labels (slice_index chosen j)) (w.live j l) in
          let y = ap (at q.labels) e in
          let f = new.free in
          let x = s.1 in
          cc)
    ]

-- a retained group for one more key

pub retained_groups_none : (keys : List (List ℕ)) (retained : List ℕ) → RetainedBelow keys 0 retained
retained_groups_none keys retained = record { each = λ i own key h. absurd (omega (arith, h)) }

-- where the retained group stays
pub retained_groups_stay : (keys : List (List ℕ)) (k own before : ℕ) (retained key kept : List ℕ) → RetainedBelow keys k retained → slice_get keys k ≡ Some key → HasFirst key own
    → before < k → slice_index retained own ≡ before → slice_get keys before ≡ Some kept → HasFirst kept own → RetainedBelow keys (k + 1) retained
retained_groups_stay keys k own before retained key kept w at_k begins less is at_before begins_before = record {
  each = λ i o x h e f. elim (cases_lt i k) [
    | inl l ↦ (let r = w.each i o x l e f in (r.0, r.1, (let a = r.2 in omega (arith, a)), r.3, r.4, r.5))
    | inr past ↦ (
        let here : i ≡ k = omega (arith, h, past) in
        let same : x ≡ key = (let a = ap (slice_get keys) here in cc) in
        let number : own ≡ o = begins_same key own o begins (subst (λ z. HasFirst z o) same f) in
        (before, kept, omega (arith, less), ap (slice_index retained) (sym number) ∙ is, at_before, subst (HasFirst kept) number begins_before))
  ];
}

-- where this key takes its place
pub retained_groups_set : (keys : List (List ℕ)) (k own : ℕ) (retained key : List ℕ) → RetainedBelow keys k retained → slice_get keys k ≡ Some key → HasFirst key own → own < length retained
    → RetainedBelow keys (k + 1) (slice_set retained own k)
retained_groups_set keys k own retained key w at_k begins within = record {
  each = λ i o x h e f. elim (eqb_tells o own) [
    | inl s ↦ (
      k,
      key,
      omega arith,
      ap (slice_index (slice_set retained own k)) s.1 ∙ get_or-set_same retained own k 0 within,
      at_k,
      subst (HasFirst key) (sym s.1) begins,
    )
    | inr d ↦ elim (cases_lt i k) [
      | inl l ↦ (let r = w.each i o x l e f in (r.0, r.1, (let a = r.2 in omega (arith, a)), get_or-set_other retained own o k 0 d.1 ∙ r.3, r.4, r.5))
      | inr past ↦ absurd (
          let here : i ≡ k = omega (arith, h, past) in
          let same : x ≡ key = (let a = ap (slice_get keys) here in cc) in
          d.1 (sym (begins_same key own o begins (subst (λ z. HasFirst z o) same f))))
    ]
  ];
}

-- a place of a list has one value, whatever stands past the end
pub get_any : (xs : List ℕ) (i d e : ℕ) → i < length xs → get_or xs i d ≡ get_or xs i e
get_any xs i d e h = let a = slice_get-get_or xs i d h in let b = slice_get-get_or xs i e h in cc
