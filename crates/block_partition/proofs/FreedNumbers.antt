-- The numbers that are free.
use Rattle.std.proofs.Common.{◌≡◌, ◌≢◌, ℕ, zero, suc, ◌+◌, ◌*◌, ◌/◌, ◌<◌, ◌≤◌, List, [], ◌∷◌, ◌++◌, length, Option, Some, None, IsSome, is_some, refl, sym, ◌∙◌, ap, arith, add-one, inl, inr, true, slice_set, count_by, cond, ◌-◌}
use Rattle.std.specs.Prelude.{◌^◌}
use Rattle.std.proofs.lemmas.List.{length-set, length-append, get_or-set_same, get_or-set_other, get_or_append_left, get_or_at}
use Rattle.std.proofs.lemmas.Bool.{cases_lt}
use Rattle.std.proofs.lemmas.Bool.Decides.{eqb_tells}
use Rattle.std.proofs.lemmas.List.Sums.{sum_by-cons, count_by-le-length}
use Rattle.std.proofs.Math.Nat.{lt-mul-div-succ, mul-div-le, div-eq_of_lt-le, mul-div_cancel_left, one-le-pow, pow-le-pow_right, pow-suc, div-one, one-mul, mul_comm, add-mul}
use Rattle.graph_spec.specs.Members.{at}
use Rattle.block_partition.specs.LabelledPartitions.{IsLeastFree}
use Rattle.block_partition.proofs.Counts.{some_within}
use Rattle.block_partition.specs.Tables.{Gaps, full_at, group}
use Rattle.block_partition.specs.Soundness.{AreGaps, AreFullRuns, IsInGroup}

-- a block stays one where another number is taken away
some_other : (lb : List (Option ℕ)) (b c : ℕ) (v : Option ℕ) → c ≢ b → IsSome (at lb c) → IsSome (at (slice_set lb b v) c)
some_other lb b c v d h = ap is_some (get_or-set_other lb b c v None d) ∙ h

-- a run before which an entry ends isn't passed by it, and the first run of its group has such an entry
stops : (full new : List ℕ) (run k : ℕ) → IsInGroup k (full_at full k) → ((level : ℕ) → level < 7 → full_at new (group level run) ≤ run - group level run)
    → full_at new k ≤ full_at full k → k ≤ run → k + full_at new k ≤ run
stops full new run k g before less below = elim (cases_lt run (k + full_at new k)) [
  | inr h ↦ h
  | inl past ↦ (
      let size : 0 < 16 ^ g.level = one-le-pow g.level 16 (omega arith) in
      let first = g.first in
      let within = g.within in
      let turned = mul_comm (16 ^ g.level) (k / 16 ^ g.level) in
      let next = add-mul (k / 16 ^ g.level) 1 (16 ^ g.level) in
      let same : run / 16 ^ g.level ≡ k / 16 ^ g.level =
      div-eq_of_lt-le (16 ^ g.level) (omega (arith, first, turned, below)) (omega (arith, first, turned, next, past, less, within)) in
      let here : group g.level run ≡ k = ap (λ q. 16 ^ g.level * q) same ∙ first in
      let end = before g.level g.few in
      let end2 : full_at new k ≤ run - k = rw here at end in
      omega (arith, end2, below))
]

in_less : (k w v : ℕ) → IsInGroup k w → v ≤ w → IsInGroup k v
in_less k w v g less = let within = g.within in record { level = g.level; few = g.few; first = g.first; within = omega (arith, within, less) }

-- a number is free from now on
pub gaps_put : (lb : List (Option ℕ)) (g h : Gaps) (b : ℕ) → AreGaps lb g
    → ((level : ℕ) → level < 7 → full_at h.full (group level (b / 64)) ≤ b / 64 - group level (b / 64)) → ((k : ℕ) → full_at h.full k ≤ full_at g.full k)
    → h.low ≤ g.low → h.low ≤ b → AreGaps (slice_set lb b None) h
gaps_put lb g h b k before fewer low below = record {
  above = λ c l. some_other lb b c None (λ e. omega (arith, e, l, below)) (k.above c (omega (arith, l, low)));
  runs = record {
    passed = λ j c from to within.
        let less = fewer j in
        let len = length-set lb b None in
        some_other lb b c None
        (λ e.
        let begins = mul-div-le b 64 in
        let ends : b < 64 * (b / 64 + 1) = lt-mul-div-succ b (omega arith) in
        let stop = stops g.full h.full (b / 64) j (k.runs.grouped j) before less (omega (arith, e, from, ends)) in
        omega (arith, e, to, stop, begins))
        (k.runs.passed j c from (omega (arith, to, less)) (omega (arith, within, len)));
    grouped = λ j. in_less j (full_at g.full j) (full_at h.full j) (k.runs.grouped j) (fewer j);
  };
}

-- more blocks
gaps_more : (lb lb' : List (Option ℕ)) (g : Gaps) → AreGaps lb g → ((c : ℕ) → IsSome (at lb c) → IsSome (at lb' c))
    → ((c : ℕ) → length lb ≤ c → c < length lb' → IsSome (at lb' c)) → AreGaps lb' g
gaps_more lb lb' g k stays next = record {
  above = λ c l. stays c (k.above c l);
  runs = record {
    passed = λ j c from to within. elim (cases_lt c (length lb)) [ inl h ↦ stays c (k.runs.passed j c from to h) | inr past ↦ next c past within ];
    grouped = k.runs.grouped;
  };
}

some_here : (lb : List (Option ℕ)) (b l c : ℕ) → b < length lb → c ≡ b → IsSome (at (slice_set lb b (Some l)) c)
some_here lb b l c within e = ap (λ n. is_some (at (slice_set lb b (Some l)) n)) e ∙ ap is_some (get_or-set_same lb b (Some l) None within)

some_set : (lb : List (Option ℕ)) (b l c : ℕ) → b < length lb → IsSome (at lb c) → IsSome (at (slice_set lb b (Some l)) c)
some_set lb b l c within h = elim (eqb_tells c b) [ inl s ↦ some_here lb b l c within s.1 | inr d ↦ some_other lb b c (Some l) d.1 h ]

pub gaps_again : (lb : List (Option ℕ)) (g : Gaps) (b l : ℕ) → b < length lb → AreGaps lb g → AreGaps (slice_set lb b (Some l)) g
gaps_again lb g b l within k =
    let len = length-set lb b (Some l) in
    gaps_more lb (slice_set lb b (Some l)) g k (λ c h. some_set lb b l c within h) (λ c past h. absurd (omega (arith, len, past, h)))

-- up to the least free number all are blocks then
pub passed_again : (lb : List (Option ℕ)) (b l : ℕ) → b < length lb → IsLeastFree lb b → (c : ℕ) → c ≤ b → IsSome (at (slice_set lb b (Some l)) c)
passed_again lb b l within least c h = elim (eqb_tells c b) [
  | inl s ↦ some_here lb b l c within s.1
  | inr d ↦ (let other = d.1 in some_set lb b l c within (least.least c (omega (arith, h, other))))
]

some_next : (lb : List (Option ℕ)) (l c : ℕ) → IsSome (at lb c) → IsSome (at (lb ++ Some l ∷ []) c)
some_next lb l c h = ap is_some (get_or_append_left lb (Some l ∷ []) None c (some_within lb c h)) ∙ h

some_last : (lb : List (Option ℕ)) (l : ℕ) → IsSome (at (lb ++ Some l ∷ []) (length lb))
some_last lb l = ap is_some (get_or_at lb (Some l) [] None (length lb) refl)

pub gaps_next : (lb : List (Option ℕ)) (g : Gaps) (l : ℕ) → AreGaps lb g → AreGaps (lb ++ Some l ∷ []) g
gaps_next lb g l k =
    let len = length-append lb (Some l ∷ []) in
    gaps_more lb (lb ++ Some l ∷ []) g k (some_next lb l) (λ c past h.
    let last : c ≡ length lb = omega (arith, len, past, h) in
    ap (λ n. is_some (at (lb ++ Some l ∷ []) n)) last ∙ some_last lb l)

-- a least free number past the end is the next one
pub least_is_next : (lb : List (Option ℕ)) (b : ℕ) → length lb ≤ b → IsLeastFree lb b → b ≡ length lb
least_is_next lb b past least = elim (cases_lt (length lb) b) [
  | inl less ↦ absurd (let h = some_within lb (length lb) (least.least (length lb) less) in omega (arith, h))
  | inr more ↦ omega (arith, past, more)
]

pub passed_next : (lb : List (Option ℕ)) (b l : ℕ) → length lb ≤ b → IsLeastFree lb b → (c : ℕ) → c ≤ b → IsSome (at (lb ++ Some l ∷ []) c)
passed_next lb b l past least c h =
    let next = least_is_next lb b past least in
    elim (cases_lt c b) [
      | inl less ↦ some_next lb l c (least.least c less)
      | inr more ↦ (
          let last : c ≡ length lb = omega (arith, next, h, more) in
          ap (λ n. is_some (at (lb ++ Some l ∷ []) n)) last ∙ some_last lb l)
    ]

-- the first run of a group begins that group
group_again : (level run : ℕ) → group level (group level run) ≡ group level run
group_again level run = ap (λ q. 16 ^ level * q) (mul-div_cancel_left (run / 16 ^ level) (one-le-pow level 16 (omega arith)))

-- an entry goes up to an end before which each run is full, or to the end of its group
pub runs_widened : (lb : List (Option ℕ)) (full new : List ℕ) (level run end : ℕ) → level < 7
    → group level run + full_at new (group level run) ≤ end → full_at new (group level run) ≤ 16 ^ level
    → ((k : ℕ) → k ≢ group level run → full_at new k ≡ full_at full k)
    → ((c : ℕ) → c < 64 * end → c < length lb → IsSome (at lb c)) → AreFullRuns lb full → AreFullRuns lb new
runs_widened lb full new level run end few to_end within others all old = record {
  passed = λ k c from to inside. elim (eqb_tells k (group level run)) [
    | inl s ↦ (let same = s.1 in let here : k + full_at new k ≤ end = rw same to_end in all c (omega (arith, here, to)) inside)
    | inr d ↦ (let here = others k d.1 in old.passed k c from (omega (arith, here, to)) inside)
  ];
  grouped = λ k. elim (eqb_tells k (group level run)) [
    | inl s ↦ (let same = s.1 in record { level = level; few = few; first = ap (group level) same ∙ group_again level run ∙ sym same; within = rw same within })
    | inr d ↦ (let here = others k d.1 in rw here (old.grouped k))
  ];
}

-- all numbers up to one are blocks, and maybe all of its run
pub gaps_pass : (lb : List (Option ℕ)) (g h : Gaps) (b : ℕ) → AreGaps lb g → ((c : ℕ) → c ≤ b → IsSome (at lb c)) → h.low ≡ b + 1 → h.full ≡ g.full → AreGaps lb h
gaps_pass lb g h b k passed low same = record {
  above = λ c l. passed c (omega (arith, l, low));
  runs = rw same k.runs;
}

-- up to an end all are blocks, where all of a run are and all of those from it on
pub all_before : (lb : List (Option ℕ)) (full : List ℕ) (b end : ℕ) → ((c : ℕ) → c ≤ b → IsSome (at lb c))
    → ((c : ℕ) → b + 1 ≤ c → c < (b / 64 + 1) * 64 → c < length lb → IsSome (at lb c))
    → ((c : ℕ) → 64 * (b / 64 + 1) ≤ c → c < 64 * end → c < length lb → IsSome (at lb c))
    → (c : ℕ) → c < 64 * end → c < length lb → IsSome (at lb c)
all_before lb full b end passed run next c before within = elim (cases_lt b c) [
  | inr below ↦ passed c below
  | inl more ↦ elim (cases_lt c (64 * (b / 64 + 1))) [
    | inl h ↦ run c (omega (arith, more)) (omega (arith, h)) within
    | inr h ↦ next c h before within
  ]
]

pub count_all : (lb : List (Option ℕ)) → ((b : ℕ) → b < length lb → IsSome (at lb b)) → count_by is_some lb ≡ length lb
count_all [] h = refl
count_all (x ∷ xs) h =
    let here : is_some x ≡ true = h 0 (omega arith) in
    let rest = count_all xs (λ b l. h (suc b) (omega (arith, l))) in
    let more = sum_by-cons (λ (o : Option ℕ). cond (is_some o) 1 0) x xs in
    let one : cond (is_some x) 1 0 ≡ suc 0 = rw here refl in
    omega (arith, more, one, rest)

-- and where as many are blocks as there are numbers, each is one
pub all_counted : (lb : List (Option ℕ)) → count_by is_some lb ≡ length lb → (c : ℕ) → c < length lb → IsSome (at lb c)
all_counted [] e c h = absurd (omega (arith, h))
all_counted (None ∷ xs) e c h =
    let more = sum_by-cons (λ (o : Option ℕ). cond (is_some o) 1 0) None xs in
    let most = count_by-le-length (λ (o : Option ℕ). is_some o) xs in
    absurd (omega (arith, e, more, most))
all_counted (Some x ∷ xs) e zero h = refl
all_counted (Some x ∷ xs) e (suc c) h =
    let more = sum_by-cons (λ (o : Option ℕ). cond (is_some o) 1 0) (Some x) xs in
    all_counted xs (omega (arith, e, more)) c (omega (arith, h))

pub no_gaps : (lb : List (Option ℕ)) (g : Gaps) → lb ≡ [] → g.low ≡ 0 → g.full ≡ [] → AreGaps lb g
no_gaps lb g none low empty = record {
  above = λ c l. absurd (omega (arith, l, low));
  runs = record {
    passed = λ k c from to within. absurd (let len : length lb ≡ 0 = ap length none in omega (arith, within, len));
    grouped = λ k. record { level = 0; few = omega arith; first = rw (div-one k) (one-mul k); within = rw empty (omega arith) };
  };
}

-- how many runs a group has
pub group_size : (level size : ℕ) → level < 7 → size ≡ 16 ^ level → (0 < size) × (size ≤ 16777216)
group_size level size few is =
    let some = one-le-pow level 16 (omega arith) in
    let most : 16 ^ level ≤ 16 ^ 6 = pow-le-pow_right (omega arith) {j = 6} (omega (arith, few)) in
    let widest : 16 ^ 6 ≡ 16777216 = refl in
    (omega (arith, some, is), omega (arith, most, is, widest))

-- one level more
pub next_size : (level size : ℕ) → size ≡ 16 ^ level → size * 16 ≡ 16 ^ (level + 1)
next_size level size is = ap (λ n. n * 16) is ∙ sym (pow-suc 16 level) ∙ ap (λ n. 16 ^ n) (sym (add-one level))
