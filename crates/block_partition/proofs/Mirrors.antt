-- Tables that mirror each other stay so.
use Rattle.std.proofs.Common.{◌≡◌, ◌≢◌, ℕ, zero, suc, ◌+◌, ◌<◌, List, [], ◌∷◌, ◌++◌, length, Option, Some, None, refl, sym, ◌∙◌, ap, arith, inl, inr, slice_set}
use Rattle.std.proofs.Math.ListN.{replicate}
use Rattle.std.proofs.lemmas.List.{get_or-set_same, get_or-set_other, length-set, get_or_past}
use Rattle.std.proofs.lemmas.Bool.{cases_lt}
use Rattle.graph_spec.specs.Members.{at}
use Rattle.block_partition.specs.Tables.{set_at, head_where, IsIn}
use Rattle.block_partition.specs.Soundness.{AreMirrored}
use Rattle.block_partition.proofs.Links.{Writes, unlinked, linked, rank_with, above, rank_bound}

-- a write into a list
pub writes_set : (xs : List (Option ℕ)) (i : ℕ) (v : Option ℕ) → i < length xs → Writes (at xs) (at (slice_set xs i v)) (Some i) v
writes_set xs i v h = record {
  here = λ m e. let same : m ≡ i = cc in rw same (get_or-set_same xs i v None h);
  there = λ m d. let other : m ≢ i = λ e. d (ap Some (sym e)) in get_or-set_other xs i m v None other;
}

pub writes_set_at : (xs : List (Option ℕ)) (o v : Option ℕ) → IsIn o xs → Writes (at xs) (at (set_at xs o v)) o v
writes_set_at xs None v h = record { here = λ m e. cc; there = λ m d. refl }
writes_set_at xs (Some i) v h = writes_set xs i v h

pub length-set_at : (xs : List (Option ℕ)) (o v : Option ℕ) → length (set_at xs o v) ≡ length xs
length-set_at xs None v = refl
length-set_at xs (Some i) v = length-set xs i v

pub within : (xs : List (Option ℕ)) (n v : ℕ) → at xs n ≡ Some v → n < length xs
within xs n v e = elim (cases_lt n (length xs)) [ inl h ↦ h | inr past ↦ absurd (let none = get_or_past xs n None past in cc) ]

-- what a place in a table of links points to stands in the tables
pub is_in : (o : Option ℕ) (xs : List (Option ℕ)) → ((i : ℕ) → o ≡ Some i → i < length xs) → IsIn o xs
is_in None xs h = tt
is_in (Some i) xs h = h i refl

pub prev_in : (bl nx pv fs : List (Option ℕ)) (n : ℕ) → AreMirrored bl nx pv fs → IsIn (at pv n) nx
prev_in bl nx pv fs n m = is_in (at pv n) nx (λ i e. within nx i n (m.links.prev_back n i e))

pub next_in : (bl nx pv fs : List (Option ℕ)) (n : ℕ) → AreMirrored bl nx pv fs → IsIn (at nx n) pv
next_in bl nx pv fs n m = is_in (at nx n) pv (λ i e. within pv i n (m.links.next_back n i e))

pub first_in : (bl nx pv fs : List (Option ℕ)) (b : ℕ) → AreMirrored bl nx pv fs → IsIn (at fs b) pv
first_in bl nx pv fs b m = is_in (at fs b) pv (λ i e. let h = within bl i b (m.links.first_block b i e) in let f = m.length_prev in omega arith)

pub head_in : (fs : List (Option ℕ)) (b : ℕ) (p : Option ℕ) → b < length fs → IsIn (head_where b p) fs
head_in fs b None h = h
head_in fs b (Some p) h = tt

-- a node is taken out
pub mirrored_out : (bl nx pv fs : List (Option ℕ)) (n b : ℕ) → AreMirrored bl nx pv fs → at bl n ≡ Some b → b < length fs
    → AreMirrored (slice_set bl n None) (slice_set (set_at nx (at pv n) (at nx n)) n None) (slice_set (set_at pv (at nx n) (at pv n)) n None) (set_at fs (head_where b (at pv n)) (at nx n))
mirrored_out bl nx pv fs n b m has in_fs =
    record {
      length_next = length-set (set_at nx (at pv n) (at nx n)) n None ∙ length-set_at nx (at pv n) (at nx n) ∙ m.length_next ∙ sym (length-set bl n None);
      length_prev = length-set (set_at pv (at nx n) (at pv n)) n None ∙ length-set_at pv (at nx n) (at pv n) ∙ m.length_prev ∙ sym (length-set bl n None);
      rank = m.rank;
      top = m.top;
      below_top = m.below_top;
      links =
          let in_bl = within bl n b has in
          unlinked (at bl) (at nx) (at pv) (at fs) _ _ _ _ _ _ m.rank n b m.links has (writes_set bl n None in_bl)
          (writes_set_at nx (at pv n) (at nx n) (prev_in bl nx pv fs n m))
          (writes_set (set_at nx (at pv n) (at nx n)) n None (let l = length-set_at nx (at pv n) (at nx n) in let e = m.length_next in omega arith))
          (writes_set_at pv (at nx n) (at pv n) (next_in bl nx pv fs n m))
          (writes_set (set_at pv (at nx n) (at pv n)) n None (let l = length-set_at pv (at nx n) (at pv n) in let e = m.length_prev in omega arith))
          (writes_set_at fs (head_where b (at pv n)) (at nx n) (head_in fs b (at pv n) in_fs));
    }

-- a node is put in front of the members of a block
pub mirrored_in : (bl nx pv fs : List (Option ℕ)) (n b : ℕ) → AreMirrored bl nx pv fs → at bl n ≡ None → n < length bl → b < length fs
    → AreMirrored (slice_set bl n (Some b)) (slice_set nx n (at fs b)) (set_at pv (at fs b) (Some n)) (slice_set fs b (Some n))
mirrored_in bl nx pv fs n b m none in_bl in_fs =
    record {
      length_next = length-set nx n (at fs b) ∙ m.length_next ∙ sym (length-set bl n (Some b));
      length_prev = length-set_at pv (at fs b) (Some n) ∙ m.length_prev ∙ sym (length-set bl n (Some b));
      rank = rank_with m.rank n (above m.rank (at fs b));
      top = m.top + 1;
      below_top = λ k. rank_bound m.rank n (at fs b) m.top m.below_top k;
      links =
          linked (at bl) (at nx) (at pv) (at fs) _ _ _ _ m.rank n b m.links none (writes_set bl n (Some b) in_bl)
          (writes_set nx n (at fs b) (let e = m.length_next in omega arith))
          (writes_set_at pv (at fs b) (Some n) (first_in bl nx pv fs b m))
          (writes_set fs b (Some n) in_fs);
    }

-- tables that have the same at each place
pub mirrored_same : (bl nx pv fs bl' nx' pv' fs' : List (Option ℕ)) → AreMirrored bl nx pv fs
    → ((n : ℕ) → at bl' n ≡ at bl n) → ((n : ℕ) → at nx' n ≡ at nx n) → ((n : ℕ) → at pv' n ≡ at pv n) → ((b : ℕ) → at fs' b ≡ at fs b)
    → length nx' ≡ length bl' → length pv' ≡ length bl' → AreMirrored bl' nx' pv' fs'
mirrored_same bl nx pv fs bl' nx' pv' fs' m sb sn sp sf ln lp =
    let k = m.links in
    record {
      length_next = ln;
      length_prev = lp;
      rank = m.rank;
      top = m.top;
      below_top = m.below_top;
      links =
          record {
            next_back = λ n q e. sp q ∙ k.next_back n q (sym (sn n) ∙ e);
            next_block = λ n q e. sb q ∙ k.next_block n q (sym (sn n) ∙ e) ∙ sym (sb n);
            next_rank = λ n q e. k.next_rank n q (sym (sn n) ∙ e);
            prev_back = λ n p e. sn p ∙ k.prev_back n p (sym (sp n) ∙ e);
            head = λ n b e z. sf b ∙ k.head n b (sym (sb n) ∙ e) (sym (sp n) ∙ z);
            first_block = λ b n e. sb n ∙ k.first_block b n (sym (sf b) ∙ e);
            first_prev = λ b n e. sp n ∙ k.first_prev b n (sym (sf b) ∙ e);
            free_next = λ n e. sn n ∙ k.free_next n (sym (sb n) ∙ e);
            free_prev = λ n e. sp n ∙ k.free_prev n (sym (sb n) ∙ e);
          };
    }

at_nones : (k n : ℕ) → at (replicate k None) n ≡ None
at_nones zero n = refl
at_nones (suc k) zero = refl
at_nones (suc k) (suc n) = at_nones k n

-- none behind a list changes no place
pub at_grown : (xs : List (Option ℕ)) (k n : ℕ) → at (xs ++ replicate k None) n ≡ at xs n
at_grown [] k n = at_nones k n
at_grown (x ∷ xs) k zero = refl
at_grown (x ∷ xs) k (suc n) = at_grown xs k n
