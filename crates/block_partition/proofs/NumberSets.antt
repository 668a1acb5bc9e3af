-- Numbers that are listed, each with its place.
use Rattle.std.proofs.Common.{◌≡◌, ◌≢◌, ℕ, zero, suc, ◌-◌, ◌<◌, ◌≤◌, List, [], ◌∷◌, ◌++◌, length, take, get_or, refl, sym, ◌∙◌, ap, subst, arith, inl, inr, true, false, Bool, ◌||◌, ◌&&◌, not, true≢false, slice_set, slice_index, nat_eq}
use Rattle.std.specs.List.{IsDistinct, swap_remove}
use Rattle.std.specs.List.Sorted.{IsPermutation}
use Rattle.std.proofs.lemmas.Bool.{cases_lt}
use Rattle.std.proofs.lemmas.Bool.Decides.{eqb_tells}
use Rattle.std.proofs.lemmas.Cmp.{nat_eq_equiv}
use Rattle.std.proofs.lemmas.Grind.{get_or_default_zero}
use Rattle.std.proofs.lemmas.List.{length-set, length-append, get_or-set_same, get_or-set_other, get_or_append_left, get_or_at, get_or-take}
use Rattle.std.proofs.lemmas.List.Sorted.{IsPermutation-swap_remove, list_any-IsPermutation}
use Rattle.std.proofs.lemmas.Map.Keys.{IsDistinct-head, IsDistinct-tail, IsDistinct-push, IsDistinct-IsPermutation}
use Rattle.graph_spec.specs.Members.{has}
use Rattle.graph_spec.proofs.ListLemmas.{none-has}
use Rattle.graph_spec.proofs.MemberLaws.{has_at}
use Rattle.block_partition.specs.Soundness.{HavePlaces}

none_once : IsDistinct nat_eq []
unfolding IsDistinct
none_once = tt

pub no_places : (numbers places : List ℕ) → numbers ≡ [] → HavePlaces numbers places
no_places numbers places e =
    let none : length numbers ≡ 0 = ap length e in
    record {
      once = subst (IsDistinct nat_eq) (sym e) none_once;
      within = λ i h. absurd (omega (arith, h, none));
      back = λ i h. absurd (omega (arith, h, none));
    }

-- where a number of the list stands
pub record Stands (xs : List ℕ) (n : ℕ) : Type 0 where
  pub place : ℕ
  pub within : place < length xs
  pub is : slice_index xs place ≡ n

pub stands : (xs : List ℕ) (n : ℕ) → has xs n ≡ true → Stands xs n
stands [] n h = absurd (true≢false (sym h))
stands (x ∷ xs) n h = elim (eqb_tells n x) [
  | inl s ↦ record { place = 0; within = omega arith; is = sym s.1 }
  | inr d ↦ (
      let r = stands xs n (sym (ap (λ b. b || has xs n) d.0) ∙ h) in
      let l = r.within in
      record { place = suc r.place; within = omega (arith, l); is = r.is })
]

pub and_none : (b : Bool) → (b && false) ≡ false
and_none true = refl
and_none false = refl

pub and_true : (b : Bool) → (b && true) ≡ b
and_true true = refl
and_true false = refl

pub places_pushed : (xs ps : List ℕ) (n : ℕ) → HavePlaces xs ps → n < length ps → has xs n ≡ false → HavePlaces (xs ++ n ∷ []) (slice_set ps n (length xs))
places_pushed xs ps n k in_ps absent =
    let len = length-append xs (n ∷ []) in
    let same = length-set ps n (length xs) in
    let front : (i : ℕ) → i < length xs → slice_index (xs ++ n ∷ []) i ≡ slice_index xs i = λ i l. get_or_append_left xs (n ∷ []) 0 i l in
    let last : (i : ℕ) → i ≡ length xs → slice_index (xs ++ n ∷ []) i ≡ n = λ i e. get_or_at xs n [] 0 i (sym e) in
    record {
      once = IsDistinct-push nat_eq_equiv xs n k.once absent;
      within = λ i h. elim (cases_lt i (length xs)) [
        | inl l ↦ (let e = front i l in let w = k.within i l in omega (arith, e, w, same))
        | inr past ↦ (let e = last i (omega (arith, len, h, past)) in omega (arith, e, in_ps, same))
      ];
      back = λ i h. elim (cases_lt i (length xs)) [
        | inl l ↦ (
            let apart : slice_index xs i ≢ n = λ e. true≢false (sym (has_at xs i 0 l) ∙ ap (has xs) e ∙ absent) in
            ap (slice_index (slice_set ps n (length xs))) (front i l) ∙ get_or-set_other ps n (slice_index xs i) (length xs) 0 apart ∙ k.back i l)
        | inr past ↦ (
            let end : i ≡ length xs = omega (arith, len, h, past) in
            ap (slice_index (slice_set ps n (length xs))) (last i end) ∙ get_or-set_same ps n (length xs) 0 in_ps ∙ sym end)
      ];
    }

-- the last number stands in the place of one, and the list is shorter by one
record IsMoved (xs ys : List ℕ) (place : ℕ) : Type 0 where
  pub len : suc (length ys) ≡ length xs
  pub here : (j : ℕ) → j < length ys → j ≡ place → slice_index ys j ≡ slice_index xs (length xs - 1)
  pub there : (j : ℕ) → j < length ys → j ≢ place → slice_index ys j ≡ slice_index xs j

moved : (xs ys : List ℕ) (place r : ℕ) → place < length xs → ys ≡ swap_remove xs place r → IsMoved xs ys place
moved xs ys place r l e =
    let last = get_or xs (length xs - 1) r in
    let set = length-set xs place last in
    let len : length ys ≡ length xs - 1 = ap length e ∙ shorter (length xs - 1) (slice_set xs place last) (omega (arith, set)) in
    let at : (j : ℕ) → j < length ys → slice_index ys j ≡ slice_index (slice_set xs place last) j =
    λ j h. ap (λ zs. slice_index zs j) e ∙ get_or-take (length xs - 1) (slice_set xs place last) j 0 (omega (arith, h, len)) in
    record {
      len = omega (arith, len, l);
      here = λ j h s. at j h ∙ ap (slice_index (slice_set xs place last)) s ∙ get_or-set_same xs place last 0 l ∙ get_or_default_zero xs (length xs - 1) r (omega (arith, l));
      there = λ j h d. at j h ∙ get_or-set_other xs place j last 0 d;
    }
  where
    shorter : (n : ℕ) (zs : List ℕ) → n ≤ length zs → length (take n zs) ≡ n
    shorter zero zs h = refl
    shorter (suc n) [] h = absurd (omega (arith, h))
    shorter (suc n) (z ∷ zs) h = ap suc (shorter n zs (omega (arith, h)))

-- where a number stands that is taken out
pub place_is : (xs ps : List ℕ) (n place : ℕ) → HavePlaces xs ps → has xs n ≡ true → place ≡ slice_index ps n → (place < length xs) × (slice_index xs place ≡ n)
place_is xs ps n place k h e =
    let s = stands xs n h in
    let same : place ≡ s.place = e ∙ ap (slice_index ps) (sym s.is) ∙ k.back s.place s.within in
    (subst (λ p. p < length xs) (sym same) s.within, ap (slice_index xs) same ∙ s.is)

-- the number is within the table of places
pub number_within : (xs ps : List ℕ) (n : ℕ) → HavePlaces xs ps → has xs n ≡ true → n < length ps
number_within xs ps n k h = let s = stands xs n h in subst (λ m. m < length ps) s.is (k.within s.place s.within)

-- the others are left, in another order
taken : (xs ys ps : List ℕ) (n place r : ℕ) → HavePlaces xs ps → has xs n ≡ true → place ≡ slice_index ps n → r ≡ get_or xs place r → ys ≡ swap_remove xs place r → IsPermutation xs (n ∷ ys)
taken xs ys ps n place r k h e is removed =
    let p = place_is xs ps n place k h e in
    let own : r ≡ n = is ∙ get_or_default_zero xs place r p.0 ∙ p.1 in
    subst (λ m. IsPermutation xs (m ∷ ys)) own (subst (λ zs. IsPermutation xs (r ∷ zs)) (sym removed) (IsPermutation-swap_remove xs place r p.0 is))

once_taken : (xs ys : List ℕ) (n : ℕ) → IsDistinct nat_eq xs → IsPermutation xs (n ∷ ys) → IsDistinct nat_eq (n ∷ ys)
once_taken xs ys n once p = IsDistinct-IsPermutation nat_eq nat_eq_equiv.symm xs (n ∷ ys) p once

-- the number that stands last is within the table too
last_is : (xs ps : List ℕ) (n len last : ℕ) → HavePlaces xs ps → has xs n ≡ true → len ≡ length xs → last ≡ get_or xs (len - 1) last → last ≡ slice_index xs (length xs - 1)
last_is xs ps n len last k h same e =
    let l = (stands xs n h).within in
    e ∙ ap (λ m. get_or xs (m - 1) last) same ∙ get_or_default_zero xs (length xs - 1) last (omega (arith, l))

pub last_within : (xs ps : List ℕ) (n len last : ℕ) → HavePlaces xs ps → has xs n ≡ true → len ≡ length xs → last ≡ get_or xs (len - 1) last → last < length ps
last_within xs ps n len last k h same e =
    let l = (stands xs n h).within in
    subst (λ m. m < length ps) (sym (last_is xs ps n len last k h same e)) (k.within (length xs - 1) (omega (arith, l)))

pub places_removed : (xs ys ps : List ℕ) (n place len last r : ℕ) → HavePlaces xs ps → has xs n ≡ true → place ≡ slice_index ps n
    → len ≡ length xs → last ≡ get_or xs (len - 1) last → r ≡ get_or xs place r → ys ≡ swap_remove xs place r → HavePlaces ys (slice_set ps last place)
places_removed xs ys ps n place len0 last r k h e long final_is is removed =
    let p = place_is xs ps n place k h e in
    let ends = last_is xs ps n len0 last k h long final_is in
    let in_xs = p.0 in
    let m = moved xs ys place r in_xs removed in
    let len = m.len in
    let same = length-set ps last place in
    let final : length xs - 1 < length xs = omega (arith, in_xs) in
    let in_ps : last < length ps = subst (λ l. l < length ps) (sym ends) (k.within (length xs - 1) final) in
    record {
      once = IsDistinct-tail nat_eq n ys (once_taken xs ys n k.once (taken xs ys ps n place r k h e is removed));
      within = λ j l. elim (eqb_tells j place) [
        | inl s ↦ (let v = m.here j l s.1 in omega (arith, v, ends, in_ps, same))
        | inr d ↦ (let v = m.there j l d.1 in let w = k.within j (omega (arith, l, len)) in omega (arith, v, w, same))
      ];
      back = λ j l. elim (eqb_tells j place) [
        | inl s ↦ ap (slice_index (slice_set ps last place)) (m.here j l s.1 ∙ sym ends) ∙ get_or-set_same ps last place 0 in_ps ∙ sym s.1
        | inr d ↦ (
            let in_old : j < length xs = omega (arith, l, len) in
            let apart : slice_index xs j ≢ last = λ q.
            let first = k.back j in_old in
            let second = k.back (length xs - 1) final in
            let one : j ≡ length xs - 1 = sym first ∙ ap (slice_index ps) (q ∙ ends) ∙ second in
            omega (arith, one, l, len) in
            ap (slice_index (slice_set ps last place)) (m.there j l d.1) ∙ get_or-set_other ps last (slice_index xs j) place 0 apart ∙ k.back j in_old)
      ];
    }

-- a number is left where it was there and isn't the one that is taken out
pub has_removed : (xs ys ps : List ℕ) (n place r : ℕ) → HavePlaces xs ps → has xs n ≡ true → place ≡ slice_index ps n → r ≡ get_or xs place r → ys ≡ swap_remove xs place r
    → (m : ℕ) → has ys m ≡ (has xs m && not (nat_eq m n))
has_removed xs ys ps n place r k h e is removed m =
    let p = taken xs ys ps n place r k h e is removed in
    let absent = none-has n ys (IsDistinct-head nat_eq n ys (once_taken xs ys n k.once p)) in
    elim (eqb_tells m n) [
      | inl s ↦ ap (has ys) s.1 ∙ absent ∙ sym (ap (λ b. has xs m && not b) s.0 ∙ and_none (has xs m))
      | inr d ↦ sym (ap (λ b. has xs m && not b) d.0 ∙ and_true (has xs m) ∙ list_any-IsPermutation (nat_eq m) xs (n ∷ ys) p ∙ ap (λ b. b || has ys m) d.0)
    ]
