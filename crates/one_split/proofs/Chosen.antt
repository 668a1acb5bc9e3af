-- One more group has its target block.
use Rattle.std.proofs.Common.{◌≡◌, ℕ, ◌+◌, ◌<◌, ◌⊎◌, List, [], ◌∷◌, ◌++◌, length, Option, Some, None, is_some, refl, sym, ◌∙◌, ap, subst, arith, inl, inr, true, true≢false}
use Rattle.std.specs.Prelude.{nat_eq, ◌||◌}
use Rattle.std.proofs.lemmas.Bool.{cases_lt, both_ways, or_cases, or_left, or_right}
use Rattle.std.proofs.lemmas.Bool.Decides.{Decides-eqb}
use Rattle.std.proofs.lemmas.List.{get_or_push, get_or_append_left, get_or_past, length-append}
use Rattle.graph_spec.specs.Members.{has, at}
use Rattle.graph_spec.proofs.MemberLaws.{has_push}
use Rattle.one_split.specs.NodeTargetBlocks.{BeginsAt, IsCountedWhole, AreGroupTargetBlocks, StaysIf, GoesIf, TargetBlocksExist}

-- the blocks in which groups stay, of those that were looked at
pub record AreNoted (keys : List (List ℕ)) (target_blocks : List (Option ℕ)) (stays : List ℕ) : Type 0 where
  pub into : (j own : ℕ) → j < length target_blocks → at target_blocks j ≡ None → BeginsAt keys j own → has stays own ≡ true
  pub from : (own : ℕ) → has stays own ≡ true → (j : ℕ) × (j < length target_blocks) × (at target_blocks j ≡ None) × BeginsAt keys j own

pub one_own : (keys : List (List ℕ)) (k a b : ℕ) → BeginsAt keys k a → BeginsAt keys k b → a ≡ b
one_own keys k a b e f =
    (let x = e.found in let y = f.found in cc)

pub target_block_before : (target_blocks : List (Option ℕ)) (o : Option ℕ) (k : ℕ) → k < length target_blocks → at (target_blocks ++ o ∷ []) k ≡ at target_blocks k
target_block_before target_blocks o k h = get_or_append_left target_blocks (o ∷ []) None k h

pub target_block_last : (target_blocks : List (Option ℕ)) (o : Option ℕ) (k : ℕ) → length target_blocks ≡ k → at (target_blocks ++ o ∷ []) k ≡ o
target_block_last target_blocks o k h = get_or_push target_blocks o None k h

-- a target block is one of the earlier groups, or the last one's
pub target_block_cases : (target_blocks : List (Option ℕ)) (o : Option ℕ) (k b : ℕ) → at (target_blocks ++ o ∷ []) k ≡ Some b → (at target_blocks k ≡ Some b) ⊎ ((k ≡ length target_blocks) × (o ≡ Some b))
target_block_cases target_blocks o k b h = elim (cases_lt k (length target_blocks)) [
  | inl before ↦ inl (sym (target_block_before target_blocks o k before) ∙ h)
  | inr past ↦ elim (cases_lt k (length target_blocks + 1)) [
    | inl here ↦ (let e : length target_blocks ≡ k = omega (arith, past, here) in inr (sym e, sym (target_block_last target_blocks o k e) ∙ h))
    | inr over ↦ absurd (
        let l : length (target_blocks ++ o ∷ []) ≡ length target_blocks + 1 = length-append target_blocks (o ∷ []) in
        let none : at (target_blocks ++ o ∷ []) k ≡ None = get_or_past (target_blocks ++ o ∷ []) k None (omega (arith, over, l)) in
        let clash : Some b ≡ None = sym h ∙ none in
        cc)
  ]
]

-- an earlier target block stays
pub target_block_stays : (target_blocks : List (Option ℕ)) (o : Option ℕ) (k b : ℕ) → at target_blocks k ≡ Some b → at (target_blocks ++ o ∷ []) k ≡ Some b
target_block_stays target_blocks o k b h = elim (cases_lt k (length target_blocks)) [
  | inl before ↦ target_block_before target_blocks o k before ∙ h
  | inr past ↦ absurd (let none : at target_blocks k ≡ None = get_or_past target_blocks k None past in let clash : Some b ≡ None = sym h ∙ none in cc)
]

-- of the earlier groups or the last one
below_cases : (target_blocks : List (Option ℕ)) (o : Option ℕ) (k : ℕ) → k < length (target_blocks ++ o ∷ []) → (k < length target_blocks) ⊎ (k ≡ length target_blocks)
below_cases target_blocks o k h = elim (cases_lt k (length target_blocks)) [
  | inl before ↦ inl before
  | inr past ↦ inr (let l : length (target_blocks ++ o ∷ []) ≡ length target_blocks + 1 = length-append target_blocks (o ∷ []) in omega (arith, h, past, l))
]

pub going_none : (p : List (Option ℕ)) (counts : List (ℕ × ℕ)) (keys : List (List ℕ)) (target_blocks : List (Option ℕ)) → target_blocks ≡ [] → AreGroupTargetBlocks p counts keys target_blocks
going_none p counts keys target_blocks e =
    let none : (k b : ℕ) → at target_blocks k ≡ Some b → ⊥ = λ k b h. (let f : at target_blocks k ≡ None = ap (λ gs. at gs k) e in let clash : Some b ≡ None = sym h ∙ f in cc) in
    let zero_len : length target_blocks ≡ 0 = ap length e in
    record {
      whole = λ k own l. absurd (omega (arith, l, zero_len));
      one = λ j k own l. absurd (omega (arith, l, zero_len));
      left = λ k own b h. absurd (none k b h);
      fresh = λ k n b h. absurd (none k b h);
      tells = λ j k b h. absurd (none j b h);
    }

-- a group that stays
pub going_stays : (p : List (Option ℕ)) (counts : List (ℕ × ℕ)) (keys : List (List ℕ)) (target_blocks : List (Option ℕ)) (own : ℕ) (stays stays2 : List ℕ)
    → AreGroupTargetBlocks p counts keys target_blocks → AreNoted keys target_blocks stays → BeginsAt keys (length target_blocks) own → StaysIf p counts own stays stays2 None
    → AreGroupTargetBlocks p counts keys (target_blocks ++ None ∷ [])
going_stays p counts keys target_blocks own stays stays2 g noted ends (free, added, only) = record {
  whole = λ k o l none e. elim (below_cases target_blocks None k l) [
    | inl before ↦ g.whole k o before (sym (target_block_before target_blocks None k before) ∙ none) e
    | inr here ↦ subst (IsCountedWhole p counts) (sym (one_own keys (length target_blocks) o own (subst (λ j. BeginsAt keys j o) here e) ends)) only
  ];
  one = λ j k o lj lk nj nk ej ek. elim (below_cases target_blocks None j lj) [
    | inl bj ↦ elim (below_cases target_blocks None k lk) [
      | inl bk ↦ g.one j k o bj bk (sym (target_block_before target_blocks None j bj) ∙ nj) (sym (target_block_before target_blocks None k bk) ∙ nk) ej ek
      | inr hk ↦ absurd (clash j o bj (sym (target_block_before target_blocks None j bj) ∙ nj) ej (subst (λ i. BeginsAt keys i o) hk ek))
    ]
    | inr hj ↦ elim (below_cases target_blocks None k lk) [
      | inl bk ↦ absurd (clash k o bk (sym (target_block_before target_blocks None k bk) ∙ nk) ek (subst (λ i. BeginsAt keys i o) hj ej))
      | inr hk ↦ hj ∙ sym hk
    ]
  ];
  left = λ k o b h e. elim (target_block_cases target_blocks None k b h) [
    | inl before ↦ elim (g.left k o b before e) [
      | inl m ↦ inl m
      | inr (j, l, none, ej) ↦ inr (j, (let x : length (target_blocks ++ None ∷ []) ≡ length target_blocks + 1 = length-append target_blocks (None ∷ []) in omega (arith, l, x)), target_block_before target_blocks None j l ∙ none, ej)
    ]
    | inr (here, goes) ↦ absurd (cc)
  ];
  fresh = λ k n b h. elim (target_block_cases target_blocks None k b h) [
    | inl before ↦ g.fresh k n b before
    | inr (here, goes) ↦ absurd (cc)
  ];
  tells = λ j k b hj hk. elim (target_block_cases target_blocks None j b hj) [
    | inl bj ↦ elim (target_block_cases target_blocks None k b hk) [
      | inl bk ↦ g.tells j k b bj bk
      | inr (here, goes) ↦ absurd (cc)
    ]
    | inr (here, goes) ↦ absurd (cc)
  ];
}
  where
    clash : (j o : ℕ) → j < length target_blocks → at target_blocks j ≡ None → BeginsAt keys j o → BeginsAt keys (length target_blocks) o → ⊥
    clash j o l none e f =
        let same : o ≡ own = one_own keys (length target_blocks) o own f ends in
        both_ways (has stays own) free (noted.into j own l none (subst (BeginsAt keys j) same e))

pub noted_stays : (keys : List (List ℕ)) (target_blocks : List (Option ℕ)) (own : ℕ) (stays stays2 : List ℕ) → AreNoted keys target_blocks stays → BeginsAt keys (length target_blocks) own
    → stays2 ≡ stays ++ own ∷ [] → AreNoted keys (target_blocks ++ None ∷ []) stays2
noted_stays keys target_blocks own stays stays2 noted ends added = record {
  into = λ j o l none e. is o ∙ elim (below_cases target_blocks None j l) [
    | inl before ↦ or_left (has stays o) (nat_eq o own) (noted.into j o before (sym (target_block_before target_blocks None j before) ∙ none) e)
    | inr here ↦ or_right (has stays o) (nat_eq o own) ((Decides-eqb o own).1 (one_own keys (length target_blocks) o own (subst (λ i. BeginsAt keys i o) here e) ends))
  ];
  from = λ o h. elim (or_cases (has stays o) (nat_eq o own) (sym (is o) ∙ h)) [
    | inl before ↦ (
        let j = noted.from o before in
        let l = j.1 in
        (j.0, (omega (arith, l, long)), target_block_before target_blocks None j.0 l ∙ j.2, j.3))
    | inr here ↦ (
        let same = (Decides-eqb o own).0 here in
        (length target_blocks, omega (arith, long), target_block_last target_blocks None (length target_blocks) refl, subst (BeginsAt keys (length target_blocks)) (sym same) ends))
  ];
}
  where
    long : length (target_blocks ++ None ∷ []) ≡ length target_blocks + 1
    long = length-append target_blocks (None ∷ [])

    is : (o : ℕ) → has stays2 o ≡ (has stays o || nat_eq o own)
    is o = ap (λ xs. has xs o) added ∙ has_push stays own o

-- a group that goes
pub going_goes : (p : List (Option ℕ)) (counts : List (ℕ × ℕ)) (keys : List (List ℕ)) (target_blocks : List (Option ℕ)) (labels labels2 : ℕ → Option ℕ) (own b : ℕ) (stays stays2 : List ℕ)
    → AreGroupTargetBlocks p counts keys target_blocks → AreNoted keys target_blocks stays → TargetBlocksExist target_blocks labels → BeginsAt keys (length target_blocks) own
    → GoesIf p labels labels2 counts own stays stays2 (Some b) → AreGroupTargetBlocks p counts keys (target_blocks ++ Some b ∷ [])
going_goes p counts keys target_blocks labels labels2 own b stays stays2 g noted blocks ends (same_stays, empty, free, some, leaves) = record {
  whole = λ k o l none e. elim (below_cases target_blocks (Some b) k l) [
    | inl before ↦ g.whole k o before (sym (target_block_before target_blocks (Some b) k before) ∙ none) e
    | inr here ↦ absurd (last_none k (sym here) none)
  ];
  one = λ j k o lj lk nj nk ej ek. elim (below_cases target_blocks (Some b) j lj) [
    | inl bj ↦ elim (below_cases target_blocks (Some b) k lk) [
      | inl bk ↦ g.one j k o bj bk (sym (target_block_before target_blocks (Some b) j bj) ∙ nj) (sym (target_block_before target_blocks (Some b) k bk) ∙ nk) ej ek
      | inr hk ↦ absurd (last_none k (sym hk) nk)
    ]
    | inr hj ↦ absurd (last_none j (sym hj) nj)
  ];
  left = λ k o c h e. elim (target_block_cases target_blocks (Some b) k c h) [
    | inl before ↦ elim (g.left k o c before e) [
      | inl m ↦ inl m
      | inr (j, l, none, ej) ↦ inr (j, omega (arith, l, long), target_block_before target_blocks (Some b) j l ∙ none, ej)
    ]
    | inr (here, goes) ↦ (
        let same : o ≡ own = one_own keys (length target_blocks) o own (subst (λ i. BeginsAt keys i o) here e) ends in
        elim leaves [
          | inl there ↦ (
              let j = noted.from own there in
              let l = j.1 in
              inr (j.0, omega (arith, l, long), target_block_before target_blocks (Some b) j.0 l ∙ j.2, subst (BeginsAt keys j.0) (sym same) j.3))
          | inr part ↦ inl (λ whole. part (subst (IsCountedWhole p counts) same whole))
        ])
  ];
  fresh = λ k n c h e. elim (target_block_cases target_blocks (Some b) k c h) [
    | inl before ↦ g.fresh k n c before e
    | inr (here, goes) ↦ empty n (e ∙ sym goes)
  ];
  tells = λ j k c hj hk. elim (target_block_cases target_blocks (Some b) j c hj) [
    | inl bj ↦ elim (target_block_cases target_blocks (Some b) k c hk) [
      | inl bk ↦ g.tells j k c bj bk
      | inr (here, goes) ↦ absurd (clash j c bj goes)
    ]
    | inr (hj2, goes_j) ↦ elim (target_block_cases target_blocks (Some b) k c hk) [
      | inl bk ↦ absurd (clash k c bk goes_j)
      | inr (hk2, goes_k) ↦ hj2 ∙ sym hk2
    ]
  ];
}
  where
    long : length (target_blocks ++ Some b ∷ []) ≡ length target_blocks + 1
    long = length-append target_blocks (Some b ∷ [])

    last_none : (k : ℕ) → length target_blocks ≡ k → at (target_blocks ++ Some b ∷ []) k ≡ None → ⊥
    last_none k e none = (let f : Some b ≡ None = sym (target_block_last target_blocks (Some b) k e) ∙ none in cc)

    clash : (k c : ℕ) → at target_blocks k ≡ Some c → Some b ≡ Some c → ⊥
    clash k c h e =
        let same : c ≡ b = cc in
        let there = blocks.some k b (h ∙ sym e) in
        true≢false (sym there ∙ ap is_some free)

pub noted_goes : (keys : List (List ℕ)) (target_blocks : List (Option ℕ)) (b : ℕ) (stays stays2 : List ℕ) → AreNoted keys target_blocks stays → stays2 ≡ stays
    → AreNoted keys (target_blocks ++ Some b ∷ []) stays2
noted_goes keys target_blocks b stays stays2 noted same = record {
  into = λ j o l none e. elim (below_cases target_blocks (Some b) j l) [
    | inl before ↦ ap (λ xs. has xs o) same ∙ noted.into j o before (sym (target_block_before target_blocks (Some b) j before) ∙ none) e
    | inr here ↦ absurd (let f : Some b ≡ None = sym (target_block_last target_blocks (Some b) j (sym here)) ∙ none in cc)
  ];
  from = λ o h.
      let j = noted.from o (sym (ap (λ xs. has xs o) same) ∙ h) in
      let l = j.1 in
      let long : length (target_blocks ++ Some b ∷ []) ≡ length target_blocks + 1 = length-append target_blocks (Some b ∷ []) in
      (j.0, omega (arith, l, long), target_block_before target_blocks (Some b) j.0 l ∙ j.2, j.3);
}
