-- A quotient that is changed piece by piece.
use Rattle.std.proofs.Common.{◌≡◌, ℕ, zero, suc, ◌+◌, ◌<◌, ◌≤◌, List, [], ◌∷◌, length, Option, Some, None, IsSome, is_some, refl, sym, ◌∙◌, ap, subst, arith, inl, inr, cond, slice_set, true≢false}
use Rattle.std.specs.Prelude.{nat_eq}
use Rattle.std.proofs.lemmas.Bool.{cases_lt}
use Rattle.std.proofs.lemmas.List.{get_or_past}
use Rattle.graph_spec.specs.Members.{at}
use Rattle.block_partition.specs.LabelledPartitions.{Partition, put, with_member}
use Rattle.bisim_spec.specs.IndexGraphs.{SupportTable, support_at}
use Rattle.quotient.specs.Quotients.{with_support}
use Rattle.quotient.specs.QuotientNeighbours.{AreLive, IsSoundQuotient}
use Rattle.quotient.specs.QuotientTables.{KeptPairs, KeptLists, IsWritten}
use Rattle.quotient.proofs.Looked.{same, same_is, test_is}
use Rattle.quotient.proofs.Taken.{support_written}

pub some_within : (xs : List (Option ℕ)) (n : ℕ) → IsSome (at xs n) → n < length xs
some_within xs n h = elim (cases_lt n (length xs)) [ inl l ↦ l | inr past ↦ absurd (true≢false (sym h ∙ ap is_some (get_or_past xs n None past))) ]

put_below : (xs : List (Option ℕ)) (n v : ℕ) → n < length xs → put xs n v ≡ slice_set xs n (Some v)
put_below [] n v h = absurd (omega (arith, h))
put_below (x ∷ xs) zero v h = refl
put_below (x ∷ xs) (suc n) v h = ap (λ (t : List (Option ℕ)). x ∷ t) (put_below xs n v (omega (arith, h)))

-- a node that has a block is put into another one
pub put_moved : (xs : List (Option ℕ)) (n v : ℕ) → IsSome (at xs n) → slice_set xs n (Some v) ≡ put xs n v
put_moved xs n v h = sym (put_below xs n v (some_within xs n h))

pub put_length : (xs : List (Option ℕ)) (n v : ℕ) (top : ℕ) → length xs ≤ top → n < top → length (put xs n v) ≤ top
put_length [] zero v top l h = omega (arith, h)
put_length [] (suc n) v zero l h = absurd (omega (arith, h))
put_length [] (suc n) v (suc top) l h = (let r = put_length [] n v top (omega arith) (omega (arith, h)) in omega (arith, r))
put_length (x ∷ xs) zero v top l h = l
put_length (x ∷ xs) (suc n) v zero l h = absurd (omega (arith, h))
put_length (x ∷ xs) (suc n) v (suc top) l h = (let r = put_length xs n v top (omega (arith, l)) (omega (arith, h)) in omega (arith, r))

pub member_reserved : (p new : Partition) (n b : ℕ) → new ≡ with_member p n b → n < length p.block_of + p.reserved.nodes
    → length new.block_of + new.reserved.nodes ≡ length p.block_of + p.reserved.nodes
member_reserved p new n b e h =
    let l = put_length p.block_of n b (length p.block_of + p.reserved.nodes) (omega arith) h in
    ap (λ (q : Partition). length q.block_of + q.reserved.nodes) e ∙ (omega (arith, l))

-- a further block
pub sound_more : (p new : Partition) (t : SupportTable) (cs ps : List (List ℕ)) (b l : ℕ) → IsSoundQuotient p t cs ps → new.labels ≡ put p.labels b l
    → ((c : ℕ) → at new.labels c ≡ cond (nat_eq c b) (Some l) (at p.labels c)) → b < length cs → IsSoundQuotient new t cs ps
sound_more p new t cs ps b l s e labels h =
    let stays : (c : ℕ) → IsSome (at p.labels c) → IsSome (at new.labels c) = λ c some. ap is_some (labels c) ∙ elim (test_is (nat_eq c b)) [
      | inl y ↦ ap (λ t. is_some (cond t (Some l) (at p.labels c))) y
      | inr f ↦ ap (λ t. is_some (cond t (Some l) (at p.labels c))) f ∙ some
    ] in
    let len = put_length p.labels b l (length cs) s.length_children h in
    let is = ap (λ (ls : List (Option ℕ)). length ls) e in
    record {
      neighbour_lists = s.neighbour_lists;
      live = λ x y some. (let both = s.live x y some in (stays x both.0, stays y both.1));
      length_children = omega (arith, len, is);
      length_parents = s.length_parents;
    }

live_written : (p : Partition) (t : SupportTable) (a b n : ℕ) → AreLive p t → IsSome (at p.labels a) → IsSome (at p.labels b) → AreLive p (with_support t (a, b) n)
live_written p t a b n live from onto x y some = elim (test_is (same (x, y) (a, b))) [
  | inl s ↦ (
      let pair = same_is (x, y) (a, b) s in
      (subst (λ (q : ℕ × ℕ). IsSome (at p.labels q.0)) (sym pair) from, subst (λ (q : ℕ × ℕ). IsSome (at p.labels q.1)) (sym pair) onto))
  | inr f ↦ (
      let is : support_at (with_support t (a, b) n) x y ≡ support_at t x y = support_written t (a, b) n x y ∙ ap (λ c. cond c n (support_at t x y)) f in
      live x y (subst (λ m. 0 < m) is some))
]

-- a support that is written
pub sound_written : (p : Partition) (a b n : ℕ) (old new : KeptPairs) (cs cs2 ps ps2 : KeptLists) → IsSoundQuotient p old.pairs cs.lists ps.lists → IsSome (at p.labels a) → IsSome (at p.labels b)
    → IsWritten a b n old new cs cs2 ps ps2 → IsSoundQuotient p new.pairs cs2.lists ps2.lists
sound_written p a b n old new cs cs2 ps ps2 s from onto w =
    let lc = w.length_children in
    let lp = w.length_parents in
    let few = s.length_children in
    let more = s.length_parents in
    record {
      neighbour_lists = w.neighbour_lists;
      live = subst (AreLive p) (sym w.pairs) (live_written p old.pairs a b n s.live from onto);
      length_children = omega (arith, lc, few);
      length_parents = omega (arith, lc, lp, more);
    }
