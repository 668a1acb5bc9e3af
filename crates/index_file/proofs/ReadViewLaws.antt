-- The views of a file as they are read.
use Rattle.std.proofs.Common.{◌≡◌, ℕ, zero, suc, ◌+◌, ◌-◌, ◌<◌, ◌≤◌, List, [], ◌∷◌, ◌++◌, length, set, get_or, Option, Some, None, IsSome, Bool, true, false, true≢false, refl, sym, ◌∙◌, ap, arith, inl, inr, length-append}
use Rattle.std.specs.Prelude.{option_and_then, option_map, slice_get, is_some, nat_le, nat_eq, if◌then◌else◌}
use Rattle.std.proofs.lemmas.Bool.{cases_Bool, leb-false, le-leb, lt-leb}
use Rattle.index_file.specs.FoundNumbers.{saturated}
use Rattle.index_file.proofs.DecimalLaws.{past}
use Rattle.index_file.specs.Readings.{RankedView, next_rank, with_rank, last_via}
use Rattle.index_file.specs.ReadViews.{last_ranks}

-- a rank that isn't too great is put behind those of the last view
pub rank_taken : (views : List RankedView) (new d : RankedView) (i r : ℕ) → i + 1 ≡ length views → new ≡ record (get_or views i d) { ranks = (get_or views i d).ranks ++ r ∷ [] }
    → nat_le r (next_rank 0 (last_ranks views)) ≡ true → with_rank views r ≡ Some (set views i new)
rank_taken [] new d i r e m low = absurd (omega (arith, e))
rank_taken (x ∷ []) new d zero r e m low =
    ap (λ b. if b then Some (record x { ranks = x.ranks ++ r ∷ [] } ∷ []) else None) low ∙ ap (λ v. Some (v ∷ [])) (sym m)
rank_taken (x ∷ []) new d (suc i) r e m low = absurd (omega (arith, e))
rank_taken (x ∷ y ∷ views) new d zero r e m low = absurd (omega (arith, e))
rank_taken (x ∷ y ∷ views) new d (suc i) r e m low =
    ap (option_and_then (λ vs. Some (x ∷ vs))) (rank_taken (y ∷ views) new d i r (omega (arith, e)) m low)

pub rank_refused : (views : List RankedView) (r : ℕ) → nat_le r (next_rank 0 (last_ranks views)) ≡ false → with_rank views r ≡ None
rank_refused [] r high = refl
rank_refused (v ∷ []) r high = rw high refl
rank_refused (v ∷ w ∷ views) r high = ap (option_and_then (λ vs. Some (v ∷ vs))) (rank_refused (w ∷ views) r high)

-- so one that is taken isn't too great, and there is a view
pub rank_low : (views : List RankedView) (r : ℕ) → IsSome (with_rank views r) → nat_le r (next_rank 0 (last_ranks views)) ≡ true
rank_low views r h = elim (cases_Bool (nat_le r (next_rank 0 (last_ranks views)))) [
  | inl on ↦ on
  | inr off ↦ absurd (true≢false (sym h ∙ ap is_some (rank_refused views r off)))
]

pub none_there : (views : List RankedView) (r : ℕ) → length views ≡ 0 → with_rank views r ≡ None
none_there [] r e = refl
none_there (v ∷ views) r e = absurd (omega (arith, e))

pub rank_there : (views : List RankedView) (r : ℕ) → 0 < length views → r ≤ next_rank 0 (last_ranks views) → IsSome (with_rank views r)
rank_there [] r some low = absurd (omega (arith, some))
rank_there (v ∷ []) r some low =
    ap (λ b. is_some (if b then Some (record v { ranks = v.ranks ++ r ∷ [] } ∷ []) else None)) (le-leb r (next_rank 0 v.ranks) low)
rank_there (v ∷ w ∷ views) r some low = then_some (with_rank (w ∷ views) r) v (rank_there (w ∷ views) r (omega arith) low)
  where
    then_some : (o : Option (List RankedView)) (x : RankedView) → IsSome o → IsSome (option_and_then (λ vs. Some (x ∷ vs)) o)
    then_some None x h = h
    then_some (Some vs) x h = refl

-- a view that is as it was
pub same_set : (views : List RankedView) (new d : RankedView) (i : ℕ) → new ≡ get_or views i d → set views i new ≡ views
same_set [] new d i e = refl
same_set (x ∷ views) new d zero e = ap (λ v. v ∷ views) e
same_set (x ∷ views) new d (suc i) e = ap (λ vs. x ∷ vs) (same_set views new d i e)

pub some_view : (views : List RankedView) (r : ℕ) → IsSome (with_rank views r) → 0 < length views
some_view [] r h = absurd (true≢false (sym h))
some_view (v ∷ views) r h = omega arith

-- the ranks of the last view, with one more
pub last_more : (views : List RankedView) (new d : RankedView) (i r : ℕ) → i + 1 ≡ length views → new ≡ record (get_or views i d) { ranks = (get_or views i d).ranks ++ r ∷ [] }
    → last_ranks (set views i new) ≡ last_ranks views ++ r ∷ []
last_more [] new d i r e m = absurd (omega (arith, e))
last_more (x ∷ []) new d zero r e m = ap (λ (v : RankedView). v.ranks) m
last_more (x ∷ []) new d (suc i) r e m = absurd (omega (arith, e))
last_more (x ∷ y ∷ views) new d zero r e m = absurd (omega (arith, e))
last_more (x ∷ y ∷ []) new d (suc zero) r e m = ap (λ (v : RankedView). v.ranks) m
last_more (x ∷ y ∷ []) new d (suc (suc i)) r e m = absurd (omega (arith, e))
last_more (x ∷ y ∷ z ∷ views) new d (suc zero) r e m = absurd (omega (arith, e))
last_more (x ∷ y ∷ z ∷ views) new d (suc (suc i)) r e m = last_more (y ∷ z ∷ views) new d (suc i) r (omega (arith, e)) m

pub next_more : (n : ℕ) (rs : List ℕ) (r : ℕ) → next_rank n (rs ++ r ∷ []) ≡ (if nat_eq r (next_rank n rs) then suc (next_rank n rs) else next_rank n rs)
next_more n [] r = refl
next_more n (x ∷ rs) r = next_more (if nat_eq x n then suc n else n) rs r

pub next_few : (n : ℕ) (rs : List ℕ) → next_rank n rs ≤ n + length rs
next_few n [] = omega arith
next_few n (x ∷ rs) = elim (cases_Bool (nat_eq x n)) [
  | inl on ↦ (let h = next_few (suc n) rs in rw on (omega (arith, h)))
  | inr off ↦ (let h = next_few n rs in rw off (omega (arith, h)))
]

pub last_row : (views : List RankedView) → option_map (λ (v : RankedView). v.via) (slice_get views (length views - 1)) ≡ last_via views
last_row [] = refl
last_row (x ∷ []) = refl
last_row (x ∷ y ∷ views) =
    let e : length (x ∷ y ∷ views) - 1 ≡ suc (length (y ∷ views) - 1) = omega arith in
    ap (λ n. option_map (λ (v : RankedView). v.via) (slice_get (x ∷ y ∷ views) n)) e ∙ last_row (y ∷ views)

-- a number past 10^18 is as far past the ranks as 10^18 is
pub rank_saturated : (views : List RankedView) (v n : ℕ) → length (last_ranks views) ≤ 4294967295 → v ≡ saturated n → with_rank views v ≡ with_rank views n
rank_saturated views v n few e = elim (cases_Bool (nat_le n 1000000000000000000)) [
  | inl on ↦ ap (with_rank views) (let z : saturated n ≡ n = (rw on refl) in e ∙ z)
  | inr off ↦
      (let above = leb-false n 1000000000000000000 off in
      let full = past n above in
      let next = next_few 0 (last_ranks views) in
      rank_refused views v (lt-leb v (next_rank 0 (last_ranks views)) (omega (arith, e, full, next, few)))
      ∙ sym (rank_refused views n (lt-leb n (next_rank 0 (last_ranks views)) (omega (arith, above, next, few)))))
]

-- the ranks of the last view are one more then
pub some_views : (xs ys : List RankedView) → Some xs ≡ Some ys → xs ≡ ys
some_views xs ys e = cc

pub then_parts : (o : Option (List RankedView)) (v : RankedView) (ws : List RankedView) → option_and_then (λ xs. Some (v ∷ xs)) o ≡ Some ws
    → (xs : List RankedView) × (o ≡ Some xs) × (ws ≡ v ∷ xs)
then_parts None v ws e = absurd (let z : None ≡ Some ws = e in cc)
then_parts (Some xs) v ws e = (xs, refl, sym (some_views (v ∷ xs) ws e))

longer_front : (v : RankedView) (xs : List RankedView) (n : ℕ) → length (last_ranks xs) ≡ n + 1 → length (last_ranks (v ∷ xs)) ≡ n + 1
longer_front v [] n e = absurd (omega (arith, e))
longer_front v (x ∷ xs) n e = e

longer_last : (v : RankedView) (r : ℕ) (ws : List RankedView) (b : Bool) → (if b then Some (record v { ranks = v.ranks ++ r ∷ [] } ∷ []) else None) ≡ Some ws
    → length (last_ranks ws) ≡ length v.ranks + 1
longer_last v r ws true e = ap (λ xs. length (last_ranks xs)) (sym (some_views (record v { ranks = v.ranks ++ r ∷ [] } ∷ []) ws e)) ∙ length-append v.ranks (r ∷ [])
longer_last v r ws false e = absurd (let z : None ≡ Some ws = e in cc)

pub rank_longer : (views : List RankedView) (r : ℕ) (ws : List RankedView) → with_rank views r ≡ Some ws → length (last_ranks ws) ≡ length (last_ranks views) + 1
rank_longer [] r ws e = absurd (let z : None ≡ Some ws = e in cc)
rank_longer (v ∷ []) r ws e = longer_last v r ws (nat_le r (next_rank 0 v.ranks)) e
rank_longer (v ∷ w ∷ views) r ws e =
    let p = then_parts (with_rank (w ∷ views) r) v ws e in
    ap (λ xs. length (last_ranks xs)) p.2 ∙ longer_front v p.0 (length (last_ranks (w ∷ views))) (rank_longer (w ∷ views) r p.0 p.1)

pub last_begun : (views : List RankedView) (v : RankedView) → last_ranks (views ++ v ∷ []) ≡ v.ranks
last_begun [] v = refl
last_begun (x ∷ []) v = refl
last_begun (x ∷ y ∷ views) v = last_begun (y ∷ views) v
