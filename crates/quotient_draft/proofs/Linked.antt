-- Puts into a block, from the last one back.
use Rattle.std.proofs.Common.{◌≡◌, ℕ, zero, suc, ◌+◌, ◌<◌, ◌≤◌, List, [], ◌∷◌, ◌++◌, length, take, Option, Some, None, refl, sym, ◌∙◌, ap, arith, inl, inr, true, false, Bool, ◌&&◌, cond, slice_get, unwrap_or, get_or, true≢false}
use Rattle.std.specs.Prelude.{nat_eq, ◌||◌, slice_index}
use Rattle.std.specs.Map.{lookup}
use Rattle.std.proofs.lemmas.Bool.{cases_lt}
use Rattle.std.proofs.lemmas.List.{take_all, length-append}
use Rattle.std.proofs.lemmas.List.Folds.{list_any-append}
use Rattle.std.proofs.lemmas.Option.{slice_get_past, slice_get-get_or}
use Rattle.graph_spec.specs.Members.{has}
use Rattle.quotient_draft.specs.Drafts.{is_pair}
use Rattle.quotient_draft.specs.MoveTables.{counted}
use Rattle.quotient_draft.specs.PutLogs.{has_put, goes_to, last_put, AreLinked, is_target, is_moved_to}
use Rattle.quotient_draft.proofs.AppliedDrafts.{take_next}
use Rattle.quotient_draft.proofs.DraftedMoves.{test_is, number_is, or_else}

pub last_below : (puts : List (ℕ × ℕ)) (b k : ℕ) → last_put puts b k ≤ k
last_below puts b zero = omega arith
last_below puts b (suc k) = elim (test_is (goes_to b (slice_get puts k))) [
  | inl s ↦ (let is : last_put puts b (suc k) ≡ suc k = ap (λ t. cond t (suc k) (last_put puts b k)) s in omega (arith, is))
  | inr f ↦ (
      let is : last_put puts b (suc k) ≡ last_put puts b k = ap (λ t. cond t (suc k) (last_put puts b k)) f in
      let rest = last_below puts b k in
      omega (arith, is, rest))
]

-- going back leads to a put into the block
pub last_fixed : (puts : List (ℕ × ℕ)) (b k : ℕ) → last_put puts b (last_put puts b k) ≡ last_put puts b k
last_fixed puts b zero = refl
last_fixed puts b (suc k) = elim (test_is (goes_to b (slice_get puts k))) [
  | inl s ↦ ap (last_put puts b) (ap (λ t. cond t (suc k) (last_put puts b k)) s)
  | inr f ↦ (
      let is : last_put puts b (suc k) ≡ last_put puts b k = ap (λ t. cond t (suc k) (last_put puts b k)) f in
      ap (last_put puts b) is ∙ last_fixed puts b k ∙ sym is)
]

pub last_goes : (puts : List (ℕ × ℕ)) (b k : ℕ) → last_put puts b (suc k) ≡ suc k → goes_to b (slice_get puts k) ≡ true
last_goes puts b k h = elim (test_is (goes_to b (slice_get puts k))) [
  | inl s ↦ s
  | inr f ↦ absurd (
      let is : last_put puts b (suc k) ≡ last_put puts b k = ap (λ t. cond t (suc k) (last_put puts b k)) f in
      let below = last_below puts b k in
      omega (arith, is, below, h))
]

and_false : (t u : Bool) → u ≡ false → (t && u) ≡ false
and_false true u e = e
and_false false u e = refl

or_false : (t u : Bool) → u ≡ false → (t || u) ≡ t
or_false true u e = refl
or_false false u e = e

-- one put more
put_next : (puts : List (ℕ × ℕ)) (k n b : ℕ) (p : ℕ × ℕ) → slice_get puts k ≡ Some p → has_put (take (k + 1) puts) n b ≡ (has_put (take k puts) n b || is_pair (n, b) p)
put_next puts k n b p e =
    ap (λ (ps : List (ℕ × ℕ)). has_put ps n b) (take_next puts k p e) ∙ list_any-append (is_pair (n, b)) (take k puts) (p ∷ [])
    ∙ ap (λ t. has_put (take k puts) n b || t) (or_false (is_pair (n, b) p) false refl)

-- behind it there are none into the block
put_back : (puts : List (ℕ × ℕ)) (n b k : ℕ) → has_put (take k puts) n b ≡ has_put (take (last_put puts b k) puts) n b
put_back puts n b zero = refl
put_back puts n b (suc k) = by (slice_get puts k) refl (put_back puts n b k)
  where
    after : suc k ≡ k + 1
    after = omega arith

    stays : goes_to b (slice_get puts k) ≡ false → last_put puts b (suc k) ≡ last_put puts b k
    stays f = ap (λ t. cond t (suc k) (last_put puts b k)) f

    within : k < length puts → slice_get puts k ≡ None → ⊥
    within l none = (let some = slice_get-get_or puts k (0, 0) l in let clash : None ≡ Some (get_or puts k (0, 0)) = sym none ∙ some in cc)

    by : (u : Option (ℕ × ℕ)) → slice_get puts k ≡ u → has_put (take k puts) n b ≡ has_put (take (last_put puts b k) puts) n b → has_put (take (suc k) puts) n b ≡ has_put (take (last_put puts b (suc k)) puts) n b
    by None e back = elim (cases_lt k (length puts)) [
      | inl l ↦ absurd (within l e)
      | inr past ↦ ap (λ (ps : List (ℕ × ℕ)). has_put ps n b) (take_all (suc k) puts (omega (arith, past)) ∙ sym (take_all k puts past)) ∙ back
          ∙ ap (λ m. has_put (take m puts) n b) (sym (stays (ap (goes_to b) e)))
    ]
    by (Some p) e back = elim (test_is (nat_eq b p.1)) [
      | inl s ↦ ap (λ m. has_put (take m puts) n b) (sym (ap (λ t. cond t (suc k) (last_put puts b k)) (ap (goes_to b) e ∙ s)))
      | inr f ↦ ap (λ m. has_put (take m puts) n b) after ∙ put_next puts k n b p e ∙ or_false (has_put (take k puts) n b) (is_pair (n, b) p) (and_false (nat_eq n p.0) (nat_eq b p.1) f)
          ∙ back ∙ ap (λ m. has_put (take m puts) n b) (sym (stays (ap (goes_to b) e ∙ f)))
    ]

-- a put is added

get_before : {X : Type 0} (xs : List X) (x : X) (k : ℕ) → k < length xs → slice_get (xs ++ x ∷ []) k ≡ slice_get xs k
get_before [] x k l = absurd (omega (arith, l))
get_before (y ∷ ys) x zero l = refl
get_before (y ∷ ys) x (suc k) l = get_before ys x k (omega (arith, l))

get_last : {X : Type 0} (xs : List X) (x : X) → slice_get (xs ++ x ∷ []) (length xs) ≡ Some x
get_last [] x = refl
get_last (y ∷ ys) x = get_last ys x

index_before : (xs : List ℕ) (x k : ℕ) → k < length xs → slice_index (xs ++ x ∷ []) k ≡ slice_index xs k
index_before [] x k l = absurd (omega (arith, l))
index_before (y ∷ ys) x zero l = refl
index_before (y ∷ ys) x (suc k) l = index_before ys x k (omega (arith, l))

index_last : (xs : List ℕ) (x : ℕ) → slice_index (xs ++ x ∷ []) (length xs) ≡ x
index_last [] x = refl
index_last (y ∷ ys) x = index_last ys x

last_kept : (puts : List (ℕ × ℕ)) (p : ℕ × ℕ) (b k : ℕ) → k ≤ length puts → last_put (puts ++ p ∷ []) b k ≡ last_put puts b k
last_kept puts p b zero l = refl
last_kept puts p b (suc k) l =
    let rest = last_kept puts p b k (omega (arith, l)) in
    ap (λ (o : Option (ℕ × ℕ)). cond (goes_to b o) (suc k) (last_put (puts ++ p ∷ []) b k)) (get_before puts p k (omega (arith, l))) ∙ ap (cond (goes_to b (slice_get puts k)) (suc k)) rest

pub linked_more : (puts : List (ℕ × ℕ)) (before : List ℕ) (last last2 : List (ℕ × ℕ)) (n b place count : ℕ) → AreLinked puts before last → place ≡ length puts → count ≡ counted last b
    → ((x : ℕ) → lookup (nat_eq x) last2 ≡ cond (nat_eq x b) (Some (place + 1)) (lookup (nat_eq x) last)) → AreLinked (puts ++ (n, b) ∷ []) (before ++ count ∷ []) last2
linked_more puts before last last2 n b place count a at is w = record {
  len = (let one = length-append before (count ∷ []) in let two = length-append puts ((n, b) ∷ []) in let same = a.len in omega (arith, one, two, same));
  links = λ i x h. elim (cases_lt i (length puts)) [
    | inl l ↦ (
        let len = a.len in
        index_before before count i (omega (arith, l, len)) ∙ a.links i x (ap (goes_to x) (sym (get_before puts (n, b) i l)) ∙ h) ∙ sym (last_kept puts (n, b) x i (omega (arith, l))))
    | inr past ↦ elim (cases_lt (length puts) i) [
      | inl more ↦ absurd (
          let len = length-append puts ((n, b) ∷ []) in
          true≢false (sym h ∙ ap (goes_to x) (slice_get_past (puts ++ (n, b) ∷ []) i (omega (arith, more, len)))))
      | inr few ↦ (
          let here : i ≡ length puts = omega (arith, past, few) in
          let len = a.len in
          let place : i ≡ length before = omega (arith, here, len) in
          let goes : nat_eq x b ≡ true = sym (ap (λ k. goes_to x (slice_get (puts ++ (n, b) ∷ []) k)) here ∙ ap (goes_to x) (get_last puts (n, b))) ∙ h in
          ap (slice_index (before ++ count ∷ [])) place ∙ index_last before count ∙ is ∙ ap (counted last) (sym (number_is x b goes)) ∙ a.ends x
          ∙ sym (last_kept puts (n, b) x (length puts) (omega arith)) ∙ ap (last_put (puts ++ (n, b) ∷ []) x) (sym here))
    ]
  ];
  ends = λ x.
      (let after : length (puts ++ (n, b) ∷ []) ≡ suc (length puts) = (let len = length-append puts ((n, b) ∷ []) in omega (arith, len)) in
      let next : place + 1 ≡ suc (length puts) = omega (arith, at) in
      ap (λ (o : Option ℕ). unwrap_or o 0) (w x) ∙ or_else (nat_eq x b) (place + 1) (lookup (nat_eq x) last) 0 ∙ ap (λ m. cond (nat_eq x b) m (counted last x)) next
      ∙ ap (cond (nat_eq x b) (suc (length puts))) (a.ends x ∙ sym (last_kept puts (n, b) x (length puts) (omega arith)))
      ∙ sym (ap (λ (o : Option (ℕ × ℕ)). cond (goes_to x o) (suc (length puts)) (last_put (puts ++ (n, b) ∷ []) x (length puts))) (get_last puts (n, b)))
      ∙ ap (last_put (puts ++ (n, b) ∷ []) x) (sym after));
}

-- the members that are moved into a block are listed, from the last put back

moved_is : (moves : List (ℕ × Option ℕ)) (b n : ℕ) → is_moved_to moves b n ≡ true → lookup (nat_eq n) moves ≡ Some (Some b)
moved_is moves b n h = by (lookup (nat_eq n) moves) refl
  where
    by : (u : Option (Option ℕ)) → lookup (nat_eq n) moves ≡ u → lookup (nat_eq n) moves ≡ Some (Some b)
    by None e = absurd (true≢false (sym h ∙ ap (is_target b) e))
    by (Some None) e = absurd (true≢false (sym h ∙ ap (is_target b) e))
    by (Some (Some c)) e = e ∙ ap (λ m. Some (Some m)) (sym (number_is b c (sym (ap (is_target b) e) ∙ h)))

pub list_start : (moves : List (ℕ × Option ℕ)) (puts : List (ℕ × ℕ)) (list : List ℕ) (b : ℕ)
    → ((m c : ℕ) → lookup (nat_eq m) moves ≡ Some (Some c) → has_put puts m c ≡ true)
    → (n : ℕ) → (has list n || (is_moved_to moves b n && has_put (take (last_put puts b (length puts)) puts) n b)) ≡ (has list n || is_moved_to moves b n)
list_start moves puts list b all n = ap (λ t. has list n || t) (by (is_moved_to moves b n) refl)
  where
    by : (t : Bool) → is_moved_to moves b n ≡ t → (t && has_put (take (last_put puts b (length puts)) puts) n b) ≡ t
    by true e =
        sym (put_back puts n b (length puts)) ∙ ap (λ (ps : List (ℕ × ℕ)). has_put ps n b) (take_all (length puts) puts (omega arith)) ∙ all n b (moved_is moves b n e)
    by false e = refl

listed : (old here moved before same : Bool) → (same ≡ true → moved ≡ here) → (cond here (old || same) old || (moved && before)) ≡ (old || (moved && (before || same)))
listed true true moved before same h = refl
listed true false moved before same h = refl
listed false true true before true h = or_true before
  where
    or_true : (t : Bool) → true ≡ (t || true)
    or_true true = refl
    or_true false = refl
listed false true true before false h = sym (or_false before false refl)
listed false true false before true h = sym (h refl)
listed false true false before false h = refl
listed false false true before true h = absurd (true≢false (h refl))
listed false false true before false h = sym (or_false before false refl)
listed false false false before same h = refl

-- one node more
pub list_next : (moves : List (ℕ × Option ℕ)) (puts : List (ℕ × ℕ)) (list next : List ℕ) (b i m before : ℕ) (old : ℕ → Bool)
    → slice_get puts i ≡ Some (m, b) → before ≡ last_put puts b i → ((n : ℕ) → has next n ≡ cond (is_moved_to moves b m) (has list n || nat_eq n m) (has list n))
    → ((n : ℕ) → (has list n || (is_moved_to moves b n && has_put (take (i + 1) puts) n b)) ≡ old n)
    → (n : ℕ) → (has next n || (is_moved_to moves b n && has_put (take before puts) n b)) ≡ old n
list_next moves puts list next b i m before old e is w h n =
    ap (λ t. t || (is_moved_to moves b n && has_put (take before puts) n b)) (w n)
    ∙ ap (λ k. cond (is_moved_to moves b m) (has list n || nat_eq n m) (has list n) || (is_moved_to moves b n && has_put (take k puts) n b)) is
    ∙ ap (λ t. cond (is_moved_to moves b m) (has list n || nat_eq n m) (has list n) || (is_moved_to moves b n && t)) (sym (put_back puts n b i))
    ∙ listed (has list n) (is_moved_to moves b m) (is_moved_to moves b n) (has_put (take i puts) n b) (nat_eq n m) (λ s. ap (is_moved_to moves b) (number_is n m s))
    ∙ ap (λ t. has list n || (is_moved_to moves b n && (has_put (take i puts) n b || t))) (sym (own (nat_eq n m)))
    ∙ ap (λ t. has list n || (is_moved_to moves b n && t)) (sym (put_next puts i n b (m, b) e)) ∙ h n
  where
    and_true : (t u : Bool) → u ≡ true → (t && u) ≡ t
    and_true true u s = s
    and_true false u s = refl

    own : (t : Bool) → (t && nat_eq b b) ≡ t
    own t = and_true t (nat_eq b b) (grind arith)
