-- Counts, when one place of a list is written.
use Rattle.std.proofs.Common.{◌≡◌, ◌≢◌, ℕ, zero, suc, ◌+◌, ◌-◌, ◌<◌, ◌≤◌, List, [], ◌∷◌, ◌++◌, length, Option, Some, None, IsSome, refl, sym, ◌∙◌, ap, arith, inl, inr, true, false, Bool, cond, subst, slice_set, slice_index, count_by}
use Rattle.std.specs.Prelude.{is_some, nat_eq}
use Rattle.std.proofs.Math.ListN.{replicate}
use Rattle.std.proofs.lemmas.List.{get_or-set_same, get_or-set_other, get_or_past, get_or_append_left}
use Rattle.std.proofs.lemmas.List.Sums.{sum_by-set, sum_by-append, count_by-le-length}
use Rattle.std.proofs.lemmas.Bool.Decides.{eqb_tells}
use Rattle.std.proofs.lemmas.Bool.{cases_lt}
use Rattle.graph_spec.specs.Members.{at, is_this}
use Rattle.block_partition.specs.Soundness.{AreBlockCounts}
use Rattle.block_partition.proofs.Links.{some_is}
use Rattle.block_partition.proofs.Mirrors.{writes_set, within, at_grown}

abbrev pub bit : Bool → ℕ
bit b = cond b 1 0

-- one place is written
pub count_set : (p : Option ℕ → Bool) (xs : List (Option ℕ)) (i : ℕ) (v : Option ℕ) → i < length xs
    → count_by p (slice_set xs i v) + bit (p (at xs i)) ≡ count_by p xs + bit (p v)
count_set p xs i v h = sum_by-set (λ x. cond (p x) 1 0) xs i v None h

this_here : (b : ℕ) → is_this b (Some b) ≡ true
this_here b = elim (eqb_tells b b) [ inl s ↦ s.0 | inr d ↦ absurd (d.1 refl) ]

this_there : (b c : ℕ) → c ≢ b → is_this c (Some b) ≡ false
this_there b c d = elim (eqb_tells c b) [ inl s ↦ absurd (d s.1) | inr f ↦ f.0 ]

none_test : (o : Option ℕ) → o ≡ None → is_some o ≡ false
none_test o e = ap is_some e

-- a member more in b, and no other block has more or fewer
count_in : (bl : List (Option ℕ)) (n b c : ℕ) → at bl n ≡ None → n < length bl
    → count_by (is_this c) (slice_set bl n (Some b)) ≡ count_by (is_this c) bl + bit (nat_eq c b)
count_in bl n b c none h = let k = count_set (is_this c) bl n (Some b) h in let z : is_this c (at bl n) ≡ false = rw none refl in let y = rw z at k in omega (arith, y)

count_out : (bl : List (Option ℕ)) (n b c : ℕ) → at bl n ≡ Some b
    → count_by (is_this c) (slice_set bl n None) + bit (nat_eq c b) ≡ count_by (is_this c) bl
count_out bl n b c has = let k = count_set (is_this c) bl n None (within bl n b has) in let y = rw has at k in omega (arith, y)

-- a block with a member has a size above 0
pub size_above : (bl lb : List (Option ℕ)) (sizes : List ℕ) (count n b : ℕ) → AreBlockCounts bl lb sizes count → at bl n ≡ Some b → 0 < slice_index sizes b
size_above bl lb sizes count n b k has =
    let o = count_out bl n b b has in
    let one : bit (nat_eq b b) ≡ 1 = rw (this_here b) refl in
    let is = k.sizes_are b in
    omega (arith, o, one, is)

-- no block has more members than there are nodes
pub size_within : (bl lb : List (Option ℕ)) (sizes : List ℕ) (count b : ℕ) → AreBlockCounts bl lb sizes count → slice_index sizes b ≤ length bl
size_within bl lb sizes count b k = let is = k.sizes_are b in let l = count_by-le-length (is_this b) bl in omega (arith, is, l)

pub counted_out : (bl lb : List (Option ℕ)) (sizes : List ℕ) (count n b : ℕ) → AreBlockCounts bl lb sizes count → at bl n ≡ Some b → b < length sizes
    → AreBlockCounts (slice_set bl n None) lb (slice_set sizes b (slice_index sizes b - 1)) count
counted_out bl lb sizes count n b k has in_sizes =
    let wb = writes_set bl n None (within bl n b has) in
    record {
      live = λ m c e. elim (some_is (Some n) m) [ inl here ↦ absurd (let z = wb.here m here in cc) | inr there ↦ k.live m c (sym (wb.there m there) ∙ e) ];
      sizes_are = λ c. elim (eqb_tells c b) [
        | inl s ↦ (
            let o = count_out bl n b c has in
            let one : bit (nat_eq c b) ≡ 1 = rw s.0 refl in
            let is = k.sizes_are c in
            let here : slice_index (slice_set sizes b (slice_index sizes b - 1)) c ≡ slice_index sizes c - 1 = rw s.1 (get_or-set_same sizes b (slice_index sizes b - 1) 0 in_sizes) in
            omega (arith, o, one, is, here))
        | inr d ↦ (
            let o = count_out bl n b c has in
            let none : bit (nat_eq c b) ≡ 0 = rw d.0 refl in
            let is = k.sizes_are c in
            let there = get_or-set_other sizes b c (slice_index sizes b - 1) 0 d.1 in
            omega (arith, o, none, is, there))
      ];
      count_is = k.count_is;
    }

pub counted_in : (bl lb : List (Option ℕ)) (sizes : List ℕ) (count n b : ℕ) → AreBlockCounts bl lb sizes count → at bl n ≡ None → n < length bl → IsSome (at lb b) → b < length sizes
    → AreBlockCounts (slice_set bl n (Some b)) lb (slice_set sizes b (slice_index sizes b + 1)) count
counted_in bl lb sizes count n b k none in_bl is_block in_sizes =
    let wb = writes_set bl n (Some b) in_bl in
    record {
      live = λ m c e. elim (some_is (Some n) m) [ inl here ↦ (let z = wb.here m here in let same : c ≡ b = cc in rw same is_block) | inr there ↦ k.live m c (sym (wb.there m there) ∙ e) ];
      sizes_are = λ c. elim (eqb_tells c b) [
        | inl s ↦ (
            let o = count_in bl n b c none in_bl in
            let one : bit (nat_eq c b) ≡ 1 = rw s.0 refl in
            let is = k.sizes_are c in
            let here : slice_index (slice_set sizes b (slice_index sizes b + 1)) c ≡ slice_index sizes c + 1 = rw s.1 (get_or-set_same sizes b (slice_index sizes b + 1) 0 in_sizes) in
            omega (arith, o, one, is, here))
        | inr d ↦ (
            let o = count_in bl n b c none in_bl in
            let nothing : bit (nat_eq c b) ≡ 0 = rw d.0 refl in
            let is = k.sizes_are c in
            let there = get_or-set_other sizes b c (slice_index sizes b + 1) 0 d.1 in
            omega (arith, o, nothing, is, there))
      ];
      count_is = k.count_is;
    }

-- a place that has something is one of the list
pub some_within : (xs : List (Option ℕ)) (n : ℕ) → IsSome (at xs n) → n < length xs
some_within xs n h = elim (cases_lt n (length xs)) [ inl l ↦ l | inr past ↦ absurd (let none = none_test (at xs n) (get_or_past xs n None past) in cc) ]

some_of : (o : Option ℕ) → IsSome o → (v : ℕ) × (o ≡ Some v)
some_of None h = absurd (cc)
some_of (Some v) h = (v, refl)

pub the_some : (xs : List (Option ℕ)) (n : ℕ) → IsSome (at xs n) → (v : ℕ) × (at xs n ≡ Some v)
the_some xs n h = some_of (at xs n) h

zero_behind : (sizes : List ℕ) (b : ℕ) → slice_index (sizes ++ 0 ∷ []) b ≡ slice_index sizes b
zero_behind [] zero = refl
zero_behind [] (suc b) = refl
zero_behind (x ∷ xs) zero = refl
zero_behind (x ∷ xs) (suc b) = zero_behind xs b

nones_count : (b k : ℕ) → count_by (is_this b) (replicate k None) ≡ 0
nones_count b zero = refl
nones_count b (suc k) = nones_count b k

-- none behind the list
pub counted_grown : (bl lb : List (Option ℕ)) (sizes : List ℕ) (count k : ℕ) → AreBlockCounts bl lb sizes count → AreBlockCounts (bl ++ replicate k None) lb sizes count
counted_grown bl lb sizes count k s = record {
  live = λ n b e. s.live n b (sym (at_grown bl k n) ∙ e);
  sizes_are = λ b.
      let a = sum_by-append (λ (o : Option ℕ). cond (is_this b o) 1 0) bl (replicate k None) in
      let z = nones_count b k in
      let is = s.sizes_are b in
      omega (arith, a, z, is);
  count_is = s.count_is;
}

-- a number that was free becomes a block
pub counted_again : (bl lb : List (Option ℕ)) (sizes : List ℕ) (count b label : ℕ) → AreBlockCounts bl lb sizes count → at lb b ≡ None → b < length lb
    → AreBlockCounts bl (slice_set lb b (Some label)) sizes (count + 1)
counted_again bl lb sizes count b label k none h =
    let w = writes_set lb b (Some label) h in
    record {
      live = λ n c e. elim (some_is (Some b) c) [ inl here ↦ subst IsSome (sym (w.here c here)) refl | inr there ↦ subst IsSome (sym (w.there c there)) (k.live n c e) ];
      sizes_are = k.sizes_are;
      count_is = (let s = count_set is_some lb b (Some label) h in let z = rw none at s in let is = k.count_is in omega (arith, z, is));
    }

-- the next number becomes a block
pub counted_next : (bl lb : List (Option ℕ)) (sizes : List ℕ) (count label : ℕ) → AreBlockCounts bl lb sizes count → length sizes ≡ length lb
    → AreBlockCounts bl (lb ++ Some label ∷ []) (sizes ++ 0 ∷ []) (count + 1)
counted_next bl lb sizes count label k same = record {
  live = λ n c e. let is = k.live n c e in subst IsSome (sym (get_or_append_left lb (Some label ∷ []) None c (some_within lb c is))) is;
  sizes_are = λ b. zero_behind sizes b ∙ k.sizes_are b;
  count_is = (let s = sum_by-append (λ (o : Option ℕ). cond (is_some o) 1 0) lb (Some label ∷ []) in let is = k.count_is in omega (arith, s, is));
}

-- a block without members is no block any more
pub counted_retired : (bl lb : List (Option ℕ)) (sizes : List ℕ) (count b : ℕ) → AreBlockCounts bl lb sizes count → IsSome (at lb b) → ((n : ℕ) → at bl n ≢ Some b)
    → (0 < count) × AreBlockCounts bl (slice_set lb b None) sizes (count - 1)
counted_retired bl lb sizes count b k is_block empty =
    let h = some_within lb b is_block in
    let w = writes_set lb b None h in
    let s = count_set is_some lb b None h in
    let one : bit (is_some (at lb b)) ≡ 1 = rw is_block refl in
    let is = k.count_is in (
      omega (arith, s, one, is),
      record {
        live = λ n c e. elim (some_is (Some b) c) [ inl here ↦ absurd (empty n (e ∙ sym here)) | inr there ↦ subst IsSome (sym (w.there c there)) (k.live n c e) ];
        sizes_are = k.sizes_are;
        count_is = omega (arith, s, one, is);
      },
    )
