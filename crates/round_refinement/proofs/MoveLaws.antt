-- Active nodes that go to the blocks of their groups.
use Rattle.std.proofs.Common.{◌≡◌, ◌≢◌, ℕ, ◌+◌, ◌<◌, ◌⊎◌, List, [], ◌∷◌, ◌++◌, length, Option, Some, None, is_some, refl, sym, ◌∙◌, ap, subst, arith, inl, inr, set, true, false, true≢false, take, get_or, get_or-set_same, get_or-set_other}
use Rattle.std.specs.Prelude.{nat_eq}
use Rattle.std.specs.List.Sorted.{IsStrictlyIncreasing}
use Rattle.std.proofs.lemmas.Bool.{cases_lt, cases_Bool, both_ways, or_cases, or_left, or_right}
use Rattle.std.proofs.lemmas.Bool.Decides.{Decides-eqb, eqb_tells}
use Rattle.std.proofs.lemmas.List.{get_or_past, set_past}
use Rattle.std.proofs.lemmas.List.Kept.{AllPairs-from_increasing}
use Rattle.graph_spec.specs.Members.{at, has}
use Rattle.graph_spec.specs.Shapes.{Shape}
use Rattle.graph_spec.proofs.MemberLaws.{has_at, has_push, has_more}
use Rattle.bisim_spec.specs.Partitions.{IsPartition}
use Rattle.bisim_spec.proofs.Bisimilar.{none_or_some, is_some_at}
use Rattle.round_refinement.specs.Active.{number_in, renamed, renamed_at, AreMoved, AreMoves, AreRenamed, IsCaughtUp}
use Rattle.round_refinement.proofs.NeighbourBlocks.{place_of}

pub same_or_not : (x y : Option ℕ) → (x ≡ y) ⊎ (x ≢ y)
same_or_not None None = inl refl
same_or_not None (Some b) = inr (λ e. absurd (cc))
same_or_not (Some a) None = inr (λ e. absurd (cc))
same_or_not (Some a) (Some b) = elim (eqb_tells a b) [
  | inl t ↦ inl (ap Some t.1)
  | inr d ↦ inr (λ e. d.1 (let same : a ≡ b = cc in same))
]

-- nodes that move

pub moved_start : (block : List (Option ℕ)) (active groups names : List ℕ) → AreMoved block active groups names 0 []
moved_start block active groups names = record {
  why = λ n h. absurd (true≢false (sym h));
  every = λ i h ne. absurd (omega (arith, h));
}

pub moved_skip : (block : List (Option ℕ)) (active groups names moved : List ℕ) (i : ℕ) → renamed_at block active groups names i ≡ at block (number_in active i)
    → AreMoved block active groups names i moved → AreMoved block active groups names (i + 1) moved
moved_skip block active groups names moved i same w = record {
  why = λ n h. let r = w.why n h in (r.0, (let l = r.1 in omega (arith, l)), r.2, r.3);
  every = λ j h ne. elim (cases_lt j i) [
    | inl before ↦ w.every j before ne
    | inr past ↦
        (let here : i ≡ j = omega (arith, h, past) in
        absurd (ne (subst (λ m. renamed_at block active groups names m ≡ at block (number_in active m)) here same)))
  ];
}

pub moved_push : (block : List (Option ℕ)) (active groups names moved : List ℕ) (i : ℕ) → renamed_at block active groups names i ≢ at block (number_in active i)
    → AreMoved block active groups names i moved → AreMoved block active groups names (i + 1) (moved ++ number_in active i ∷ [])
moved_push block active groups names moved i apart w = record {
  why = λ n h. elim (or_cases (has moved n) (nat_eq n (number_in active i)) (sym (has_push moved (number_in active i) n) ∙ h)) [
    | inl t ↦ (let r = w.why n t in (r.0, (let l = r.1 in omega (arith, l)), r.2, r.3))
    | inr e ↦
        (let same : n ≡ number_in active i = (Decides-eqb n (number_in active i)).0 e in
        (i, omega arith, sym same, λ z. apart (z ∙ ap (at block) same)))
  ];
  every = λ j h ne. elim (cases_lt j i) [
    | inl before ↦ has_push moved (number_in active i) (number_in active j) ∙ or_left (has moved (number_in active j)) (nat_eq (number_in active j) (number_in active i)) (w.every j before ne)
    | inr past ↦
        (let here : j ≡ i = omega (arith, h, past) in
        let same : number_in active j ≡ number_in active i = ap (number_in active) here in
        has_push moved (number_in active i) (number_in active j)
        ∙ or_right (has moved (number_in active j)) (nat_eq (number_in active j) (number_in active i)) ((Decides-eqb (number_in active j) (number_in active i)).1 same))
  ];
}

-- nodes that are put into the blocks of their groups

put_same : (xs : List (Option ℕ)) (n x : ℕ) → at (set xs n (renamed (at xs n) x)) n ≡ renamed (at xs n) x
put_same xs n x = elim (cases_lt n (length xs)) [
  | inl inside ↦ get_or-set_same xs n (renamed (at xs n) x) None inside
  | inr past ↦
      (let none : at xs n ≡ None = get_or_past xs n None past in
      ap (λ l. at l n) (set_past xs n (renamed (at xs n) x) past) ∙ none ∙ sym (ap (λ o. renamed o x) none))
]

pub renamed_start : (old : List (Option ℕ)) (active groups names : List ℕ) → AreRenamed old old active groups names 0
renamed_start old active groups names = record { applied = λ i h. absurd (omega (arith, h)); others = λ n h. refl }

pub renamed_more : (old mid new : List (Option ℕ)) (active groups names : List ℕ) (i : ℕ) → IsStrictlyIncreasing active → i < length active → AreRenamed old mid active groups names i
    → new ≡ set mid (number_in active i) (renamed_at mid active groups names i) → AreRenamed old new active groups names (i + 1)
renamed_more old mid new active groups names i rising within w is =
    let below : (j : ℕ) → j < i → number_in active j < number_in active i = λ j h. AllPairs-from_increasing active rising j i 0 h within in
    let apart : (j : ℕ) → j < i → number_in active j ≢ number_in active i = λ j h e. (let l = below j h in omega (arith, l, e)) in
    let here : at mid (number_in active i) ≡ at old (number_in active i) = w.others (number_in active i) apart in
    let put : at new (number_in active i) ≡ renamed_at old active groups names i =
    ap (λ l. at l (number_in active i)) is ∙ put_same mid (number_in active i) (number_in names (number_in groups i)) ∙ ap (λ o. renamed o (number_in names (number_in groups i))) here
    in
    record {
      applied = λ j h. elim (cases_lt j i) [
        | inl before ↦
            ap (λ l. at l (number_in active j)) is
            ∙ get_or-set_other mid (number_in active i) (number_in active j) (renamed_at mid active groups names i) None (apart j before) ∙ w.applied j before
        | inr past ↦
            (let same : i ≡ j = omega (arith, h, past) in
            subst (λ k. at new (number_in active k) ≡ renamed_at old active groups names k) same put)
      ];
      others = λ m h.
          ap (λ l. at l m) is
          ∙ get_or-set_other mid (number_in active i) m (renamed_at mid active groups names i) None (λ e. h i (omega arith) (sym e))
          ∙ w.others m (λ j k. h j (omega (arith, k)));
    }

-- the new block of an active node
pub new_at : (old new : List (Option ℕ)) (active groups names : List ℕ) (count i n : ℕ) → AreRenamed old new active groups names count → i < count → number_in active i ≡ n
    → at new n ≡ renamed (at old n) (number_in names (number_in groups i))
new_at old new active groups names count i n w h e = subst (λ m. at new m ≡ renamed (at old m) (number_in names (number_in groups i))) e (w.applied i h)

-- and of another
pub kept_at : (old new : List (Option ℕ)) (active groups names : List ℕ) (n : ℕ) → AreRenamed old new active groups names (length active) → has active n ≡ false → at new n ≡ at old n
kept_at old new active groups names n w none = w.others n (λ i h e. both_ways (has active n) none (ap (has active) (sym e) ∙ has_at active i 0 h))

-- exactly the moved nodes have another block

moved_why : (old new : List (Option ℕ)) (active groups names moved : List ℕ) → AreMoved old active groups names (length active) moved → AreRenamed old new active groups names (length active)
    → (n : ℕ) → has moved n ≡ true → at new n ≢ at old n
moved_why old new active groups names moved m c n h same =
    let r = m.why n h in
    r.3 (sym (c.applied r.0 r.1) ∙ ap (at new) r.2 ∙ same)

moved_every : (old new : List (Option ℕ)) (active groups names moved : List ℕ) → AreMoved old active groups names (length active) moved → AreRenamed old new active groups names (length active)
    → (n : ℕ) → at new n ≢ at old n → has moved n ≡ true
moved_every old new active groups names moved m c n apart = elim (cases_Bool (has active n)) [
  | inl here ↦
      (let i = place_of active n here in
      ap (has moved) (sym i.2) ∙ m.every i.0 i.1 (λ z. apart (ap (at new) (sym i.2) ∙ c.applied i.0 i.1 ∙ z ∙ ap (at old) i.2)))
  | inr none ↦ absurd (apart (kept_at old new active groups names n c none))
]

pub are_moves : (old new : List (Option ℕ)) (active groups names moved : List ℕ) → AreMoved old active groups names (length active) moved → AreRenamed old new active groups names (length active)
    → AreMoves old new moved
are_moves old new active groups names moved m c = record { why = moved_why old new active groups names moved m c; every = moved_every old new active groups names moved m c }

-- other nodes stay where they were
pub others_stay : (before now : List (Option ℕ)) (moved : List ℕ) → AreMoves before now moved → (n : ℕ) → has moved n ≡ false → at now n ≡ at before n
others_stay before now moved w n off = elim (same_or_not (at now n) (at before n)) [
  | inl same ↦ same
  | inr apart ↦ absurd (both_ways (has moved n) off (w.every n apart))
]

-- moves depend on the blocks of nodes alone
pub moves_from : (before after now : List (Option ℕ)) (moved : List ℕ) → ((n : ℕ) → at after n ≡ at before n) → AreMoves before now moved → AreMoves after now moved
moves_from before after now moved same w = record {
  why = λ n h e. w.why n h (e ∙ same n);
  every = λ n apart. w.every n (λ e. apart (e ∙ sym (same n)));
}

-- nodes that are put where they are now

pub caught_start : (before now : List (Option ℕ)) → IsCaughtUp before now [] before
caught_start before now = record { put = λ n h some. absurd (true≢false (sym h)); others = λ n off. refl }

put_here : (xs : List (Option ℕ)) (n : ℕ) (o : Option ℕ) → is_some (at xs n) ≡ true → at (set xs n o) n ≡ o
put_here xs n o some = elim (cases_lt n (length xs)) [
  | inl inside ↦ get_or-set_same xs n o None inside
  | inr past ↦ absurd (both_ways (is_some (at xs n)) (ap is_some (get_or_past xs n None past)) some)
]

pub caught_more : (before now mid new : List (Option ℕ)) (moved : List ℕ) (i d : ℕ) → i < length moved → IsCaughtUp before now (take i moved) mid
    → new ≡ set mid (get_or moved i d) (at now (get_or moved i d)) → IsCaughtUp before now (take (i + 1) moved) new
caught_more before now mid new moved i d within w is = record {
  put = λ n h some. elim (eqb_tells n (get_or moved i d)) [
    | inl t ↦ here n t.1 some
    | inr f ↦ there n f.1 ∙ w.put n (was n f.1 h) some
  ];
  others = λ n off.
      let apart : n ≢ get_or moved i d = λ e. both_ways (has (take (i + 1) moved) n) off (has_more moved i d n within ∙ or_right (has (take i moved) n) (nat_eq n (get_or moved i d)) ((Decides-eqb n (get_or moved i d)).1 e)) in
      there n apart ∙ w.others n (before_off n off);
}
  where
    there : (n : ℕ) → n ≢ get_or moved i d → at new n ≡ at mid n
    there n apart = ap (λ l. at l n) is ∙ get_or-set_other mid (get_or moved i d) n (at now (get_or moved i d)) None apart

    was : (n : ℕ) → n ≢ get_or moved i d → has (take (i + 1) moved) n ≡ true → has (take i moved) n ≡ true
    was n apart h = elim (or_cases (has (take i moved) n) (nat_eq n (get_or moved i d)) (sym (has_more moved i d n within) ∙ h)) [
      | inl before ↦ before
      | inr same ↦ absurd (apart ((Decides-eqb n (get_or moved i d)).0 same))
    ]

    before_off : (n : ℕ) → has (take (i + 1) moved) n ≡ false → has (take i moved) n ≡ false
    before_off n off = elim (cases_Bool (has (take i moved) n)) [
      | inl on ↦ absurd (both_ways (has (take (i + 1) moved) n) off (has_more moved i d n within ∙ or_left (has (take i moved) n) (nat_eq n (get_or moved i d)) on))
      | inr none ↦ none
    ]

    mid_some : (n : ℕ) → is_some (at before n) ≡ true → (at mid n ≡ at before n) ⊎ (at mid n ≡ at now n)
    mid_some n some = elim (cases_Bool (has (take i moved) n)) [
      | inl on ↦ inr (w.put n on some)
      | inr off ↦ inl (w.others n off)
    ]

    here : (n : ℕ) → n ≡ get_or moved i d → is_some (at before n) ≡ true → at new n ≡ at now n
    here n same some = elim (cases_lt n (length mid)) [
      | inl inside ↦
          (let put : at (set mid n (at now n)) n ≡ at now n = get_or-set_same mid n (at now n) None inside in
          ap (λ l. at l n) (subst (λ k. new ≡ set mid k (at now k)) (sym same) is) ∙ put)
      | inr past ↦ elim (mid_some n some) [
        | inl stayed ↦ absurd (both_ways (is_some (at before n)) (ap is_some (sym stayed ∙ get_or_past mid n None past)) some)
        | inr put ↦
            (let none : at mid n ≡ None = get_or_past mid n None past in
            let kept : at (set mid n (at now n)) n ≡ at mid n = ap (λ l. at l n) (set_past mid n (at now n) past) in
            ap (λ l. at l n) (subst (λ k. new ≡ set mid k (at now k)) (sym same) is) ∙ kept ∙ put)
      ]
    ]

-- then all nodes are
pub caught_all : (s : Shape) (before now after : List (Option ℕ)) (moved : List ℕ) → IsPartition s before → IsPartition s now → AreMoves before now moved → IsCaughtUp before now moved after
    → (n : ℕ) → at after n ≡ at now n
caught_all s before now after moved p q w c n = elim (cases_Bool (has moved n)) [
  | inr off ↦ c.others n off ∙ sym (others_stay before now moved w n off)
  | inl on ↦ elim (none_or_some (at before n)) [
    | inr (b, e) ↦ c.put n on (is_some_at (at before n) b e)
    | inl none ↦ elim (none_or_some (at now n)) [
      | inl none2 ↦ absurd (w.why n on (none2 ∙ sym none))
      | inr (b, e) ↦ absurd (both_ways (is_some (at before n)) (ap is_some none) (p.live n (q.only n (is_some_at (at now n) b e))))
    ]
  ]
]
