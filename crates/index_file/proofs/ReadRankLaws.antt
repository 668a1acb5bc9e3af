-- How many ranks the views of a file have, and how many views there are.
use Rattle.std.proofs.Common.{◌≡◌, ℕ, suc, ◌+◌, ◌≤◌, List, [], ◌∷◌, ◌++◌, length, Option, Some, None, Bool, true, false, true≢false, refl, sym, ap, subst, arith, length-append}
use Rattle.std.specs.Prelude.{nat_le, nat_eq, if◌then◌else◌}
use Rattle.std.proofs.lemmas.Bool.{and_parts, eqb-true}
use Rattle.index_api.specs.declared.kinds.Via.{Via}
use Rattle.index_api.specs.declared.kinds.Via.TheVariants.{Data, A, One, Fb, B}
use Rattle.index_file.specs.Readings.{RankedView, next_rank, with_rank, last_via, follows, is_end}
use Rattle.index_file.specs.ReadViews.{last_ranks, HaveRanks, most_views}
use Rattle.index_file.proofs.ReadViewLaws.{some_views, then_parts, rank_longer}

-- a view begins
pub ranks_begun : (live : ℕ) (views : List RankedView) (via : Via) → HaveRanks live views 0 → HaveRanks live (views ++ record { via = via; ranks = [] } ∷ []) live
ranks_begun live [] via h = omega arith
ranks_begun live (v ∷ []) via h = ((let e : length v.ranks + 0 ≡ live = h in omega (arith, e)), omega arith)
ranks_begun live (v ∷ w ∷ views) via h = (h.0, ranks_begun live (w ∷ views) via h.1)

last_came : (live left r : ℕ) (v : RankedView) (ws : List RankedView) (b : Bool) → length v.ranks + suc left ≡ live
    → (if b then Some (record v { ranks = v.ranks ++ r ∷ [] } ∷ []) else None) ≡ Some ws → HaveRanks live ws left
last_came live left r v ws true h e =
    subst (λ xs. HaveRanks live xs left) (some_views (record v { ranks = v.ranks ++ r ∷ [] } ∷ []) ws e)
    (let l = length-append v.ranks (r ∷ []) in omega (arith, h, l))
last_came live left r v ws false h e = absurd (let z : None ≡ Some ws = e in cc)

front_came : (live left : ℕ) (v : RankedView) (xs : List RankedView) (n : ℕ) → length (last_ranks xs) ≡ n + 1 → length v.ranks ≡ live → HaveRanks live xs left → HaveRanks live (v ∷ xs) left
front_came live left v [] n e h ranks = absurd (omega (arith, e))
front_came live left v (x ∷ xs) n e h ranks = (h, ranks)

-- a rank comes
pub rank_came : (live left r : ℕ) (views ws : List RankedView) → HaveRanks live views (suc left) → with_rank views r ≡ Some ws → HaveRanks live ws left
rank_came live left r [] ws h e = absurd (let z : None ≡ Some ws = e in cc)
rank_came live left r (v ∷ []) ws h e = last_came live left r v ws (nat_le r (next_rank 0 v.ranks)) h e
rank_came live left r (v ∷ w ∷ views) ws h e =
    let p = then_parts (with_rank (w ∷ views) r) v ws e in
    subst (λ xs. HaveRanks live xs left) (sym p.2)
    (front_came live left v p.0 (length (last_ranks (w ∷ views))) (rank_longer (w ∷ views) r p.0 p.1) h.0 (rank_came live left r (w ∷ views) p.0 h.1 p.1))

-- a rank leaves the list of indexes
pub record SameIndexes (old new : List RankedView) : Type 0 where
  pub count : length new ≡ length old
  pub last : last_via new ≡ last_via old

last_kept : (r : ℕ) (v : RankedView) (ws : List RankedView) (b : Bool) → (if b then Some (record v { ranks = v.ranks ++ r ∷ [] } ∷ []) else None) ≡ Some ws → SameIndexes (v ∷ []) ws
last_kept r v ws true e = subst (SameIndexes (v ∷ [])) (some_views (record v { ranks = v.ranks ++ r ∷ [] } ∷ []) ws e) (record { count = refl; last = refl })
last_kept r v ws false e = absurd (let z : None ≡ Some ws = e in cc)

front_kept : (v w : RankedView) (views xs : List RankedView) → SameIndexes (w ∷ views) xs → SameIndexes (v ∷ w ∷ views) (v ∷ xs)
front_kept v w views [] s = absurd (let c = s.count in omega (arith, c))
front_kept v w views (x ∷ xs) s = record { count = ap suc s.count; last = s.last }

pub rank_keeps : (views : List RankedView) (r : ℕ) (ws : List RankedView) → with_rank views r ≡ Some ws → SameIndexes views ws
rank_keeps [] r ws e = absurd (let z : None ≡ Some ws = e in cc)
rank_keeps (v ∷ []) r ws e = last_kept r v ws (nat_le r (next_rank 0 v.ranks)) e
rank_keeps (v ∷ w ∷ views) r ws e =
    let p = then_parts (with_rank (w ∷ views) r) v ws e in
    subst (SameIndexes (v ∷ w ∷ views)) (sym p.2) (front_kept v w views p.0 (rank_keeps (w ∷ views) r p.0 p.1))

pub last_begins : (views : List RankedView) (v : RankedView) → last_via (views ++ v ∷ []) ≡ Some v.via
last_begins [] v = refl
last_begins (x ∷ []) v = refl
last_begins (x ∷ y ∷ views) v = last_begins (y ∷ views) v

-- each index that follows stands further on
pub most_rises : (k : ℕ) (last : Option Via) (via : Via) → k ≤ 8 → follows k last via ≡ true → most_views last + 1 ≤ most_views (Some via)
most_rises k last Data low h = absurd (true≢false (sym h))
most_rises k None (A level) low h = omega arith
most_rises k (Some Data) (A level) low h = absurd (true≢false (sym h))
most_rises k (Some (A below)) (A level) low h = (let e = eqb-true level (below + 1) (and_parts (nat_eq level (below + 1)) (nat_le level k) h).0 in omega (arith, e))
most_rises k (Some One) (A level) low h = absurd (true≢false (sym h))
most_rises k (Some Fb) (A level) low h = absurd (true≢false (sym h))
most_rises k (Some (B below)) (A level) low h = absurd (true≢false (sym h))
most_rises k None One low h = omega arith
most_rises k (Some Data) One low h = absurd (true≢false (sym h))
most_rises k (Some (A level)) One low h = (let e = eqb-true level k h in omega (arith, e, low))
most_rises k (Some One) One low h = absurd (true≢false (sym h))
most_rises k (Some Fb) One low h = absurd (true≢false (sym h))
most_rises k (Some (B level)) One low h = absurd (true≢false (sym h))
most_rises k None Fb low h = omega arith
most_rises k (Some Data) Fb low h = absurd (true≢false (sym h))
most_rises k (Some (A level)) Fb low h = (let e = eqb-true level k h in omega (arith, e, low))
most_rises k (Some One) Fb low h = omega arith
most_rises k (Some Fb) Fb low h = absurd (true≢false (sym h))
most_rises k (Some (B level)) Fb low h = absurd (true≢false (sym h))
most_rises k None (B level) low h = omega arith
most_rises k (Some Data) (B level) low h = absurd (true≢false (sym h))
most_rises k (Some (A below)) (B level) low h = (let e = eqb-true below k (and_parts (nat_eq below k) (nat_eq level 0) h).0 in omega (arith, e, low))
most_rises k (Some One) (B level) low h = omega arith
most_rises k (Some Fb) (B level) low h = omega arith
most_rises k (Some (B below)) (B level) low h = (let e = eqb-true level (below + 1) (and_parts (nat_eq level (below + 1)) (nat_le level k) h).0 in omega (arith, e))

-- where the file may end there are at most twenty
pub most_end : (k : ℕ) (last : Option Via) → k ≤ 8 → is_end k last ≡ true → most_views last ≤ 20
most_end k None low h = omega arith
most_end k (Some Data) low h = omega arith
most_end k (Some (A level)) low h = (let e = eqb-true level k h in omega (arith, e, low))
most_end k (Some One) low h = omega arith
most_end k (Some Fb) low h = omega arith
most_end k (Some (B level)) low h = (let e = eqb-true level k h in omega (arith, e, low))
