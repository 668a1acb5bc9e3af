-- The ranks of blocks, as they are met.
use Rattle.std.proofs.Common.{◌≡◌, ◌≢◌, ℕ, zero, suc, ◌+◌, ◌<◌, ◌≤◌, List, Option, Some, None, is_some, Bool, true, false, ◌&&◌, not, true≢false, refl, sym, ◌∙◌, ap, subst, arith, inl, inr, ◌⊎◌, length, set, get_or-set_same, get_or-set_other}
use Rattle.std.proofs.lemmas.Bool.{cases_lt, cases_Bool, and_parts}
use Rattle.graph_spec.specs.Shapes.{Shape}
use Rattle.graph_spec.specs.Members.{at}
use Rattle.bisim_spec.specs.Below.{any_below, count_below}
use Rattle.bisim_spec.specs.Partitions.{Together, IsPartition}
use Rattle.bisim_spec.specs.Tests.{together}
use Rattle.bisim_spec.proofs.BelowLaws as below
use Rattle.bisim_spec.proofs.BelowLaws.{any_from, any_get, none_get, bit_of}
use Rattle.bisim_spec.proofs.Bisimilar.{some_of, none_or_some, is_some_at}
use Rattle.bisim_spec.proofs.StabilityTests.{together_decides}
use Rattle.extent_report.specs.ListedBlocks.{is_related, is_first}
use Rattle.extent_report.proofs.NumberedTexts.{count_more}
use Rattle.index_file.specs.WrittenFiles.{least, rank_of, rank_line, rank_text}
use Rattle.index_file.specs.BlockRanks.{AreRanks}

-- the least number up to n that passes
pub least_is : (n w : ℕ) (p : ℕ → Bool) → p w ≡ true → any_below w p ≡ false → w ≤ n → least n p ≡ w
least_is zero w p h none l = omega (arith, l)
least_is (suc n) w p h none l = elim (cases_Bool (any_below n p)) [
  | inl on ↦
      (let k = any_get n p on in
      let low = k.1 in
      let above : w ≤ k.0 = (elim (cases_lt k.0 w) [
        | inl b ↦ absurd (true≢false (sym (any_from w p k.0 b k.2) ∙ none))
        | inr a ↦ a
      ]) in
      (rw on (least_is n w p h none (omega (arith, low, above)))))
  | inr off ↦ elim (cases_lt w n) [
    | inl b ↦ absurd (true≢false (sym (any_from n p w b h) ∙ off))
    | inr a ↦ elim (cases_lt n w) [
      | inl b ↦
          (let last : w ≡ suc n = omega (arith, b, l) in
          let out : p n ≡ false = none_get w p none n b in
          (rw (off, out) (sym last)))
      | inr c ↦
          (let here : n ≡ w = omega (arith, a, c) in
          let on : p n ≡ true = ap p here ∙ h in
          (rw (off, on) here))
    ]
  ]
]

related_self : (s : Shape) (block : List (Option ℕ)) (n b : ℕ) → IsPartition s block → at block n ≡ Some b → is_related s (together block) n n ≡ true
related_self s block n b p e =
    let node : is_some (s.label n) ≡ true = p.only n (is_some_at (at block n) b e) in
    let same : together block n n ≡ true = (together_decides block n n).1 (b, e, e) in
    ap (λ x. x && together block n n) node ∙ same

related_get : (s : Shape) (block : List (Option ℕ)) (n m b : ℕ) → at block n ≡ Some b → is_related s (together block) n m ≡ true → at block m ≡ Some b
related_get s block n m b e h =
    let t : Together block n m = (together_decides block n m).0 (and_parts (is_some (s.label m)) (together block n m) h).1 in
    let f = t.1 in
    let g = t.2 in
    cc

related_from : (s : Shape) (block : List (Option ℕ)) (n m b : ℕ) → IsPartition s block → at block n ≡ Some b → at block m ≡ Some b → is_related s (together block) n m ≡ true
related_from s block n m b p e f =
    let node : is_some (s.label m) ≡ true = p.only m (is_some_at (at block m) b f) in
    let same : together block n m ≡ true = (together_decides block n m).1 (b, e, f) in
    ap (λ x. x && together block n m) node ∙ same

-- the first node of the block of n, up to n
first_of : (s : Shape) (block : List (Option ℕ)) (n b : ℕ) → IsPartition s block → at block n ≡ Some b
    → (w : ℕ) × (w ≤ n) × (at block w ≡ Some b) × ((k : ℕ) → k < w → at block k ≡ Some b → ⊥)
first_of s block n b p e =
    let w = below.least (suc n) (is_related s (together block) n) (any_from (suc n) (is_related s (together block) n) n (omega arith) (related_self s block n b p e)) in
    let low = w.1 in (
      w.0,
      omega (arith, low),
      related_get s block n w.0 b e w.2,
      λ k l f. true≢false (sym (any_from w.0 (is_related s (together block) n) k l (related_from s block n k b p e f)) ∙ w.3),
    )

-- the rank of n is told by the first node of its block
rank_by : (s : Shape) (block : List (Option ℕ)) (n b w : ℕ) → IsPartition s block → at block n ≡ Some b → w ≤ n → at block w ≡ Some b
    → ((k : ℕ) → k < w → at block k ≡ Some b → ⊥) → rank_of s (together block) n ≡ count_below w (is_first s (together block))
rank_by s block n b w p e l f none =
    ap (λ k. count_below k (is_first s (together block)))
    (least_is n w (is_related s (together block) n) (related_from s block n w b p e f) (no_less) l)
  where
    no_less : any_below w (is_related s (together block) n) ≡ false
    no_less = elim (cases_Bool (any_below w (is_related s (together block) n))) [
      | inl on ↦ (let k = any_get w (is_related s (together block) n) on in absurd (none k.0 k.1 (related_get s block n k.0 b e k.2)))
      | inr off ↦ off
    ]

pub rank_same : (s : Shape) (block : List (Option ℕ)) (m n b : ℕ) → IsPartition s block → at block m ≡ Some b → at block n ≡ Some b → m ≤ n
    → rank_of s (together block) n ≡ rank_of s (together block) m
rank_same s block m n b p e f l =
    let w = first_of s block m b p e in
    let low = w.1 in
    rank_by s block n b w.0 p f (omega (arith, low, l)) w.2 w.3 ∙ sym (rank_by s block m b w.0 p e low w.2 w.3)

first_is : (s : Shape) (block : List (Option ℕ)) (n b : ℕ) → IsPartition s block → at block n ≡ Some b → ((k : ℕ) → k < n → at block k ≡ Some b → ⊥)
    → is_first s (together block) n ≡ true
first_is s block n b p e none =
    ap (λ x. x && not (any_below n (is_related s (together block) n))) node ∙ ap not off
  where
    node : is_some (s.label n) ≡ true
    node = p.only n (is_some_at (at block n) b e)

    off : any_below n (is_related s (together block) n) ≡ false
    off = elim (cases_Bool (any_below n (is_related s (together block) n))) [
      | inl on ↦ (let k = any_get n (is_related s (together block) n) on in absurd (none k.0 k.1 (related_get s block n k.0 b e k.2)))
      | inr none_there ↦ none_there
    ]

not_first : (s : Shape) (block : List (Option ℕ)) (m n b : ℕ) → IsPartition s block → at block n ≡ Some b → at block m ≡ Some b → m < n
    → is_first s (together block) n ≡ false
not_first s block m n b p e f l = elim (cases_Bool (is_first s (together block) n)) [
  | inl on ↦
      (let off = (and_parts (is_some (s.label n)) (not (any_below n (is_related s (together block) n))) on).1 in
      let seen = any_from n (is_related s (together block) n) m l (related_from s block n m b p e f) in
      absurd (true≢false (sym off ∙ ap not seen)))
  | inr off ↦ off
]

no_node : (s : Shape) (block : List (Option ℕ)) (n : ℕ) → IsPartition s block → at block n ≡ None → is_some (s.label n) ≡ false
no_node s block n p e = elim (cases_Bool (is_some (s.label n))) [
  | inl on ↦ (let b = some_of (at block n) (p.live n on) in let f = b.1 in absurd (cc))
  | inr off ↦ off
]

pub ranks_start : (s : Shape) (block table : List (Option ℕ)) → ((b k : ℕ) → at table b ≡ Some k → ⊥) → AreRanks s block 0 table 0
ranks_start s block table none = record {
  ranked = λ m b h e. absurd (omega (arith, h));
  met = λ b k e. absurd (none b k e);
  count_is = refl;
}

-- a number without a block
pub ranks_none : (s : Shape) (block table : List (Option ℕ)) (n count : ℕ) → IsPartition s block → AreRanks s block n table count → at block n ≡ None
    → AreRanks s block (n + 1) table count
ranks_none s block table n count p w none = record {
  ranked = λ m b h e. elim (cases_lt m n) [
    | inl before ↦ w.ranked m b before e
    | inr past ↦ (let here : m ≡ n = omega (arith, h, past) in let z = ap (at block) here in absurd (cc))
  ];
  met = λ b k e. let m = w.met b k e in let l = m.1 in (m.0, omega (arith, l), m.2);
  count_is =
      let more = count_more n (is_first s (together block)) in
      let out : is_first s (together block) n ≡ false = ap (λ x. x && not (any_below n (is_related s (together block) n))) (no_node s block n p none) in
      let z = ap bit_of out in
      let c = w.count_is in
      omega (arith, more, z, c);
}

-- a node of a block that was met
pub ranks_again : (s : Shape) (block table : List (Option ℕ)) (n b k count : ℕ) → IsPartition s block → AreRanks s block n table count → at block n ≡ Some b → at table b ≡ Some k
    → (k ≡ rank_of s (together block) n) × AreRanks s block (n + 1) table count
ranks_again s block table n b k count p w e f =
    let m = w.met b k f in
    let before = m.1 in
    let old = w.ranked m.0 b before m.2 in
    let same : k ≡ rank_of s (together block) m.0 = cc in
    let is = same ∙ sym (rank_same s block m.0 n b p m.2 e (omega (arith, before))) in (
      is,
      record {
        ranked = λ j c h g. elim (cases_lt j n) [
          | inl low ↦ w.ranked j c low g
          | inr past ↦
              (let here : j ≡ n = omega (arith, h, past) in
              let z = ap (at block) here in
              let one : b ≡ c = cc in
              ap (at table) (sym one) ∙ f ∙ ap Some is ∙ ap (λ i. Some (rank_of s (together block) i)) (sym here))
        ];
        met = λ c j g. let x = w.met c j g in let l = x.1 in (x.0, omega (arith, l), x.2);
        count_is =
            let more = count_more n (is_first s (together block)) in
            let z = ap bit_of (not_first s block m.0 n b p e m.2 before) in
            let c = w.count_is in
            omega (arith, more, z, c);
      },
    )

-- a node of a block that wasn't
pub ranks_new : (s : Shape) (block table : List (Option ℕ)) (n b count : ℕ) → IsPartition s block → AreRanks s block n table count → at block n ≡ Some b → at table b ≡ None
    → b < length table → (count ≡ rank_of s (together block) n) × AreRanks s block (n + 1) (set table b (Some count)) (count + 1)
ranks_new s block table n b count p w e f within =
    let none : (k : ℕ) → k < n → at block k ≡ Some b → ⊥ = λ k l g. (let old = w.ranked k b l g in absurd (cc)) in
    let is : count ≡ rank_of s (together block) n = w.count_is ∙ sym (rank_by s block n b n p e (omega arith) e none) in
    let same_at = get_or-set_same table b (Some count) None within in (
      is,
      record {
        ranked = λ j c h g. elim (cases_lt j n) [
          | inl low ↦
              (let ne : c ≢ b = λ one. (let z = ap (at table) one in let old = w.ranked j c low g in absurd (cc)) in
              get_or-set_other table b c (Some count) None ne ∙ w.ranked j c low g)
          | inr past ↦
              (let here : j ≡ n = omega (arith, h, past) in
              let z = ap (at block) here in
              let one : c ≡ b = cc in
              ap (at (set table b (Some count))) one ∙ same_at ∙ ap Some is ∙ ap (λ i. Some (rank_of s (together block) i)) (sym here))
        ];
        met = λ c j g. by c j g (cases_lt c b) (cases_lt b c);
        count_is =
            let more = count_more n (is_first s (together block)) in
            let z = ap bit_of (first_is s block n b p e none) in
            let c = w.count_is in
            omega (arith, more, z, c);
      },
    )
  where
    other : (c j : ℕ) → c ≢ b → at (set table b (Some count)) c ≡ Some j → (m : ℕ) × (m < n + 1) × (at block m ≡ Some c)
    other c j ne g = let x = w.met c j (sym (get_or-set_other table b c (Some count) None ne) ∙ g) in let l = x.1 in (x.0, omega (arith, l), x.2)

    by : (c j : ℕ) → at (set table b (Some count)) c ≡ Some j → (c < b) ⊎ (b ≤ c) → (b < c) ⊎ (c ≤ b) → (m : ℕ) × (m < n + 1) × (at block m ≡ Some c)
    by c j g (inl l) y = other c j (λ x. omega (arith, l, x)) g
    by c j g (inr m) (inl l) = other c j (λ x. omega (arith, l, x)) g
    by c j g (inr m) (inr k) = (n, omega arith, e ∙ ap Some (let one : b ≡ c = omega (arith, m, k) in one))

pub step_some : (s : Shape) (block table new : List (Option ℕ)) (n b r count more : ℕ) → IsPartition s block → AreRanks s block n table count → at block n ≡ Some b → b < length table
    → ((k : ℕ) → at table b ≡ Some k → (r ≡ k) × (new ≡ table) × (more ≡ count))
    → (at table b ≡ None → (r ≡ count) × (new ≡ set table b (Some r)) × (more ≡ count + 1))
    → (r ≡ rank_of s (together block) n) × AreRanks s block (n + 1) new more
step_some s block table new n b r count more p w e within again fresh = elim (none_or_some (at table b)) [
  | inl none ↦
      (let f = fresh none in
      let x = ranks_new s block table n b count p w e none within in
      (f.0 ∙ x.0, subst (λ k. AreRanks s block (n + 1) new k) (sym f.2) (subst (λ t. AreRanks s block (n + 1) t (count + 1)) (sym (f.1 ∙ ap (λ k. set table b (Some k)) f.0)) x.1)))
  | inr (k, some) ↦
      (let f = again k some in
      let x = ranks_again s block table n b k count p w e some in
      (f.0 ∙ x.0, subst (λ j. AreRanks s block (n + 1) new j) (sym f.2) (subst (λ t. AreRanks s block (n + 1) t count) (sym f.1) x.1)))
]

pub text_some : (s : Shape) (block : List (Option ℕ)) (n b r : ℕ) → IsPartition s block → at block n ≡ Some b → r ≡ rank_of s (together block) n
    → rank_text (Some r) ≡ rank_line s (together block) n
text_some s block n b r p e is =
    let node : is_some (s.label n) ≡ true = p.only n (is_some_at (at block n) b e) in
    ap (λ k. rank_text (Some k)) is ∙ (rw node refl)

pub text_none : (s : Shape) (block : List (Option ℕ)) (n : ℕ) → IsPartition s block → at block n ≡ None → rank_text None ≡ rank_line s (together block) n
text_none s block n p e = rw (no_node s block n p e) refl
