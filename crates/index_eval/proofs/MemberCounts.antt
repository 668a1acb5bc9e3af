-- How many members blocks have in all.
use Rattle.std.proofs.Common.{◌≡◌, ℕ, zero, suc, ◌+◌, ◌≤◌, Bool, true, false, ◌&&◌, ◌||◌, List, [], ◌∷◌, length, map, get_or, Option, None, Some, IsTrue, count_by, cond, ap, refl, sym, ◌∙◌, arith, inl, inr, true≢false}
use Rattle.std.proofs.lemmas.Bool.{cases_Bool}
use Rattle.std.proofs.lemmas.Bool.Decides.{eqb_tells}
use Rattle.std.proofs.lemmas.List.Sums.{sum_by-cons}
use Rattle.graph_spec.specs.Members.{has, at, is_this}
use Rattle.px_base.specs.BitSets.{IsNext, places_from}
use Rattle.px_base.proofs.FlagIndexes.{places-has, places-rising}
use Rattle.bisim_spec.specs.IndexGraphs.{View, shape_of_view}
use Rattle.branch_query.specs.Queries.{Query, relaxed, IsQueryAnswer}
use Rattle.index_eval.specs.Extents.{is_in_blocks, AreOfBlocks}
use Rattle.index_eval.specs.Candidates.{IsCandidateCount}
use Rattle.index_eval.proofs.BlockSets.{is_in_below, below_none, below_step, are_of_blocks, not_below}
use Rattle.index_eval.proofs.Gathered.{candidates_of_each, kept_of_each}

abbrev bit : Bool → ℕ
bit b = cond b 1 0

count_cons : (p : Option ℕ → Bool) (x : Option ℕ) (xs : List (Option ℕ)) → count_by p (x ∷ xs) ≡ bit (p x) + count_by p xs
count_cons p x xs = sum_by-cons (λ o. cond (p o) 1 0) x xs

-- what passes one of two tests, of which no number passes both
count_either : (p q r : Option ℕ → Bool) → ((o : Option ℕ) → bit (r o) ≡ bit (p o) + bit (q o)) → (xs : List (Option ℕ)) → count_by r xs ≡ count_by p xs + count_by q xs
count_either p q r h [] = refl
count_either p q r h (x ∷ xs) = omega (arith, h x, count_either p q r h xs, count_cons p x xs, count_cons q x xs, count_cons r x xs)

count_nothing : (p : Option ℕ → Bool) → ((o : Option ℕ) → p o ≡ false) → (xs : List (Option ℕ)) → count_by p xs ≡ 0
count_nothing p h [] = refl
count_nothing p h (x ∷ xs) =
    let first : bit (p x) ≡ 0 = ap bit (h x) in
    omega (arith, first, count_cons p x xs, count_nothing p h xs)

-- none is counted below 0
pub counted_none : (blocks : List ℕ) (xs : List (Option ℕ)) → count_by (is_in_below 0 blocks) xs ≡ 0
counted_none blocks xs = count_nothing (is_in_below 0 blocks) (below_none blocks) xs

one_bit : (a b : Bool) → a ≡ true → b ≡ false → bit (a || b) ≡ bit a + bit b
one_bit true false h k = refl
one_bit true true h k = absurd (true≢false k)
one_bit false b h k = absurd (true≢false (sym h))

other_bit : (a b : Bool) → a ≡ false → bit (a || b) ≡ bit a + bit b
other_bit true b h = absurd (true≢false h)
other_bit false true h = refl
other_bit false false h = refl

-- the next block is none of those that are counted
apart : (blocks : List ℕ) (from b : ℕ) → from ≤ b → (o : Option ℕ) → bit (is_this b o || is_in_below from blocks o) ≡ bit (is_this b o) + bit (is_in_below from blocks o)
apart blocks from b le None = refl
apart blocks from b le (Some x) = elim (eqb_tells b x) [
  | inl same ↦
      (let e : b ≡ x = same.1 in
      let past = ap (λ t. t && has blocks x) (not_below x from (omega (arith, e, le))) in
      one_bit (is_this b (Some x)) (is_in_below from blocks (Some x)) same.0 past)
  | inr other ↦ other_bit (is_this b (Some x)) (is_in_below from blocks (Some x)) other.0
]

-- so it adds as many as it has members
pub counted_next : (blocks : List ℕ) (from b : ℕ) → IsNext blocks from b → (xs : List (Option ℕ))
    → count_by (is_in_below (b + 1) blocks) xs ≡ count_by (is_this b) xs + count_by (is_in_below from blocks) xs
counted_next blocks from b next xs =
    count_either (is_this b) (is_in_below from blocks) (is_in_below (b + 1) blocks) (λ o. ap bit (below_step blocks from b next o) ∙ apart blocks from b next.from o) xs

-- the members, listed, are as many
listed_count : (p : Option ℕ → Bool) (s : ℕ) (xs : List (Option ℕ)) → length (places_from s (map p xs)) ≡ count_by p xs
listed_count p s [] = refl
listed_count p s (x ∷ xs) =
    let rest = listed_count p (s + 1) xs in
    let all = count_cons p x xs in
    elim (cases_Bool (p x)) [
      | inl on ↦ (rw (all, on) (omega (arith, rest)))
      | inr off ↦ (rw (all, off) (omega (arith, rest)))
    ]

passes_at : (p : Option ℕ → Bool) → p None ≡ false → (xs : List (Option ℕ)) (n : ℕ) → get_or (map p xs) n false ≡ p (at xs n)
passes_at p none [] n = sym none
passes_at p none (x ∷ xs) zero = refl
passes_at p none (x ∷ xs) (suc n) = passes_at p none xs n

-- as many candidates as the answering blocks have members
pub is_candidate_count : (texts : List (List ℕ)) (v : View) (q : Query) (blocks : List ℕ) (count : ℕ)
    → ((b : ℕ) → IsTrue (has blocks b) → IsQueryAnswer (shape_of_view texts v) (relaxed q) b) → ((b : ℕ) → IsQueryAnswer (shape_of_view texts v) (relaxed q) b → IsTrue (has blocks b))
    → count ≡ count_by (is_in_blocks blocks) v.block_of → IsCandidateCount texts v q count
is_candidate_count texts v q blocks count get put e = record {
  nodes = nodes;
  members = members;
  candidates = candidates_of_each texts v q false (record { size = 0; members = nodes }) members;
  kept = kept_of_each texts v q false (record { size = 0; members = nodes }) members;
  count_is = e ∙ sym (listed_count (is_in_blocks blocks) 0 v.block_of);
}
  where
    nodes : List ℕ
    nodes = places_from 0 (map (is_in_blocks blocks) v.block_of)

    members : AreOfBlocks v.block_of (IsQueryAnswer (shape_of_view texts v) (relaxed q)) nodes
    members = are_of_blocks v.block_of (IsQueryAnswer (shape_of_view texts v) (relaxed q)) blocks nodes get put
        (places-rising 0 (map (is_in_blocks blocks) v.block_of))
        (λ n. places-has 0 (map (is_in_blocks blocks) v.block_of) n n (omega arith) ∙ passes_at (is_in_blocks blocks) refl v.block_of n)
