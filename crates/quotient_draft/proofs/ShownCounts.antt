-- How many members blocks have as shown.
use Rattle.std.proofs.Common.{◌≡◌, ℕ, zero, suc, ◌+◌, ◌<◌, ◌≤◌, List, [], ◌∷◌, ◌++◌, length, Option, Some, None, IsSome, refl, sym, ◌∙◌, ap, subst, arith, inl, inr, true, false, Bool, cond, slice_set, count_by, true≢false}
use Rattle.std.specs.Prelude.{nat_eq}
use Rattle.std.specs.List.{IsDistinct, AllByRecursion}
use Rattle.std.specs.Map.{lookup, keys_of}
use Rattle.std.proofs.lemmas.Bool.{cases_lt}
use Rattle.std.proofs.lemmas.List.{length-set}
use Rattle.std.proofs.lemmas.List.Sums.{sum_by-append, count_by-le-length}
use Rattle.std.proofs.lemmas.Map.Keys.{IsDistinct-head, IsDistinct-tail}
use Rattle.indexmap.specs.IndexMap.{insert_entry}
use Rattle.graph_spec.specs.Members.{at, is_this}
use Rattle.block_partition.specs.LabelledPartitions.{put}
use Rattle.quotient.specs.QuotientNeighbours.{one_if}
use Rattle.quotient.specs.Quotients.{with_put}
use Rattle.quotient_draft.specs.Drafts.{with_moves}
use Rattle.quotient_draft.specs.MoveTables.{into_count, taken_count}
use Rattle.quotient_draft.specs.PutLogs.{has_put}
use Rattle.quotient_draft.proofs.PutLists.{at_with_put}
use Rattle.quotient_draft.proofs.AppliedDrafts.{put_length}
use Rattle.quotient_draft.proofs.DraftedMoves.{test_is, absent_key, number_is, number_turned}
use Rattle.quotient_draft.proofs.Gone.{some_counted, member_at}

-- counting goes item by item
count_first : {X : Type 0} (p : X → Bool) (x : X) (xs : List X) → count_by p (x ∷ xs) ≡ one_if (p x) + count_by p xs
count_first p x xs =
    let parts = sum_by-append (λ y. cond (p y) 1 0) (x ∷ []) xs in
    omega (arith, parts)

pub count_last : {X : Type 0} (p : X → Bool) (xs : List X) (x : X) → count_by p (xs ++ x ∷ []) ≡ count_by p xs + one_if (p x)
count_last p xs x =
    let parts = sum_by-append (λ y. cond (p y) 1 0) xs (x ∷ []) in
    omega (arith, parts)

-- one place of a list is written

put_count : (xs : List (Option ℕ)) (n v b : ℕ) → count_by (is_this b) (put xs n v) + one_if (is_this b (at xs n)) ≡ count_by (is_this b) xs + one_if (nat_eq b v)
put_count [] zero v b =
    let new = count_first (is_this b) (Some v) [] in
    omega (arith, new)
put_count [] (suc n) v b =
    let new = count_first (is_this b) None (put [] n v) in
    let rest = put_count [] n v b in
    omega (arith, new, rest)
put_count (x ∷ xs) zero v b =
    let new = count_first (is_this b) (Some v) xs in
    let old = count_first (is_this b) x xs in
    omega (arith, new, old)
put_count (x ∷ xs) (suc n) v b =
    let new = count_first (is_this b) x (put xs n v) in
    let old = count_first (is_this b) x xs in
    let rest = put_count xs n v b in
    omega (arith, new, old, rest)

out_count : (xs : List (Option ℕ)) (n b : ℕ) → count_by (is_this b) (slice_set xs n None) + one_if (is_this b (at xs n)) ≡ count_by (is_this b) xs
out_count [] n b = refl
out_count (x ∷ xs) zero b =
    let new = count_first (is_this b) None xs in
    let old = count_first (is_this b) x xs in
    omega (arith, new, old)
out_count (x ∷ xs) (suc n) b =
    let new = count_first (is_this b) x (slice_set xs n None) in
    let old = count_first (is_this b) x xs in
    let rest = out_count xs n b in
    omega (arith, new, old, rest)

with_put_count : (xs : List (Option ℕ)) (n : ℕ) (v : Option ℕ) (b : ℕ) → count_by (is_this b) (with_put xs n v) + one_if (is_this b (at xs n)) ≡ count_by (is_this b) xs + one_if (is_this b v)
with_put_count xs n (Some v) b = put_count xs n v b
with_put_count xs n None b = (let out = out_count xs n b in omega (arith, out))

-- a move changes the block of its own node alone
taken_kept : (block : List (Option ℕ)) (n : ℕ) (v : Option ℕ) (es : List (ℕ × Option ℕ)) (b : ℕ) → AllByRecursion (λ q. nat_eq n q ≡ false) (keys_of es) → taken_count (with_put block n v) es b ≡ taken_count block es b
taken_kept block n v [] b h = refl
taken_kept block n v (e ∷ es) b h =
    let same : at (with_put block n v) e.0 ≡ at block e.0 = at_with_put block n v e.0 ∙ ap (λ t. cond t v (at block e.0)) (number_turned e.0 n ∙ h.0) in
    let bit : one_if (is_this b (at (with_put block n v) e.0)) ≡ one_if (is_this b (at block e.0)) = ap (λ o. one_if (is_this b o)) same in
    let new = count_first (λ (f : ℕ × Option ℕ). is_this b (at (with_put block n v) f.0)) e es in
    let old = count_first (λ (f : ℕ × Option ℕ). is_this b (at block f.0)) e es in
    let rest = taken_kept block n v es b h.1 in
    omega (arith, bit, new, old, rest)

-- the members as shown, and those that were moved away, are the members in the base, and those that were moved here
pub shown_count : (block : List (Option ℕ)) (es : List (ℕ × Option ℕ)) (b : ℕ) → IsDistinct nat_eq (keys_of es)
    → count_by (is_this b) (with_moves block es) + taken_count block es b ≡ count_by (is_this b) block + into_count es b
shown_count block [] b d = refl
shown_count block (e ∷ es) b d =
    let rest = shown_count (with_put block e.0 e.1) es b (IsDistinct-tail nat_eq e.0 (keys_of es) d) in
    let kept = taken_kept block e.0 e.1 es b (IsDistinct-head nat_eq e.0 (keys_of es) d) in
    let one = with_put_count block e.0 e.1 b in
    let taken = count_first (λ (f : ℕ × Option ℕ). is_this b (at block f.0)) e es in
    let into = count_first (λ (f : ℕ × Option ℕ). is_this b f.1) e es in
    omega (arith, rest, kept, one, taken, into)

with_put_length : (xs : List (Option ℕ)) (n : ℕ) (v : Option ℕ) (top : ℕ) → length xs ≤ top → (IsSome v → n < top) → length (with_put xs n v) ≤ top
with_put_length xs n (Some v) top l h = put_length xs n v top l (h refl)
with_put_length xs n None top l h = subst (λ k. k ≤ top) (sym (length-set xs n None)) l

moves_length : (block : List (Option ℕ)) (es : List (ℕ × Option ℕ)) (top : ℕ) → IsDistinct nat_eq (keys_of es) → length block ≤ top
    → ((n b : ℕ) → lookup (nat_eq n) es ≡ Some (Some b) → n < top) → length (with_moves block es) ≤ top
moves_length block [] top d l h = l
moves_length block (e ∷ es) top d l h =
    moves_length (with_put block e.0 e.1) es top (IsDistinct-tail nat_eq e.0 (keys_of es) d) (with_put_length block e.0 e.1 top l (first e.1 refl)) rest
  where
    own : nat_eq e.0 e.0 ≡ true
    own = grind arith

    first : (v : Option ℕ) → e.1 ≡ v → IsSome v → e.0 < top
    first None is some = absurd (true≢false (sym some))
    first (Some b) is some = h e.0 b (ap (λ t. cond t (Some e.1) (lookup (nat_eq e.0) es)) own ∙ ap Some is)

    rest : (n b : ℕ) → lookup (nat_eq n) es ≡ Some (Some b) → n < top
    rest n b is = elim (test_is (nat_eq n e.0)) [
      | inl s ↦ absurd (
          let none : lookup (nat_eq n) es ≡ None = ap (λ m. lookup (nat_eq m) es) (number_is n e.0 s) ∙ absent_key nat_eq e.0 es (IsDistinct-head nat_eq e.0 (keys_of es) d) in
          let clash : Some (Some b) ≡ None = sym is ∙ none in
          cc)
      | inr f ↦ h n b (ap (λ t. cond t (Some e.1) (lookup (nat_eq n) es)) f ∙ is)
    ]

-- so there are no more members than numbers
pub shown_few : (block : List (Option ℕ)) (es : List (ℕ × Option ℕ)) (b top : ℕ) → IsDistinct nat_eq (keys_of es) → length block ≤ top
    → ((n c : ℕ) → lookup (nat_eq n) es ≡ Some (Some c) → n < top) → count_by (is_this b) (with_moves block es) ≤ top
shown_few block es b top d l h =
    let few = count_by-le-length (is_this b) (with_moves block es) in
    let len = moves_length block es top d l h in
    omega (arith, few, len)

-- a number that is no block of a node has no members
pub none_held : (block : List (Option ℕ)) (b : ℕ) → ((n : ℕ) → at block n ≡ Some b → false ≡ true) → count_by (is_this b) block ≡ 0
none_held block b h = elim (cases_lt 0 (count_by (is_this b) block)) [
  | inl some ↦ absurd (let member = member_at block b (some_counted block b some) in true≢false (sym (h member.0 member.1)))
  | inr none ↦ omega (arith, none)
]

-- a further move of a node that is moved

pub value_count : (p : Option ℕ → Bool) (es : List (ℕ × Option ℕ)) (n : ℕ) (v own : Option ℕ) → lookup (nat_eq n) es ≡ Some own
    → count_by (λ e. p e.1) (insert_entry nat_eq es n v) + one_if (p own) ≡ count_by (λ e. p e.1) es + one_if (p v)
value_count p [] n v own h = absurd (cc)
value_count p (e ∷ es) n v own h = elim (test_is (nat_eq n e.0)) [
  | inl s ↦ (
      let is : Some e.1 ≡ Some own = sym (ap (λ t. cond t (Some e.1) (lookup (nat_eq n) es)) s) ∙ h in
      let same : e.1 ≡ own = cc in
      let bit : one_if (p e.1) ≡ one_if (p own) = ap (λ o. one_if (p o)) same in
      let list : count_by (λ f. p f.1) (insert_entry nat_eq (e ∷ es) n v) ≡ count_by (λ f. p f.1) ((e.0, v) ∷ es) =
      ap (λ t. count_by (λ (f : ℕ × Option ℕ). p f.1) (cond t ((e.0, v) ∷ es) (e ∷ insert_entry nat_eq es n v))) s in
      let new = count_first (λ (f : ℕ × Option ℕ). p f.1) (e.0, v) es in
      let old = count_first (λ (f : ℕ × Option ℕ). p f.1) e es in
      omega (arith, bit, list, new, old))
  | inr f ↦ (
      let list : count_by (λ f. p f.1) (insert_entry nat_eq (e ∷ es) n v) ≡ count_by (λ f. p f.1) (e ∷ insert_entry nat_eq es n v) =
      ap (λ t. count_by (λ (f : ℕ × Option ℕ). p f.1) (cond t ((e.0, v) ∷ es) (e ∷ insert_entry nat_eq es n v))) f in
      let new = count_first (λ (f : ℕ × Option ℕ). p f.1) e (insert_entry nat_eq es n v) in
      let old = count_first (λ (f : ℕ × Option ℕ). p f.1) e es in
      let rest = value_count p es n v own (sym (ap (λ t. cond t (Some e.1) (lookup (nat_eq n) es)) f) ∙ h) in
      omega (arith, list, new, old, rest))
]

pub key_count : (q : ℕ → Bool) (es : List (ℕ × Option ℕ)) (n : ℕ) (v own : Option ℕ) → lookup (nat_eq n) es ≡ Some own
    → count_by (λ e. q e.0) (insert_entry nat_eq es n v) ≡ count_by (λ e. q e.0) es
key_count q [] n v own h = absurd (cc)
key_count q (e ∷ es) n v own h = elim (test_is (nat_eq n e.0)) [
  | inl s ↦ (
      let list : count_by (λ f. q f.0) (insert_entry nat_eq (e ∷ es) n v) ≡ count_by (λ f. q f.0) ((e.0, v) ∷ es) =
      ap (λ t. count_by (λ (f : ℕ × Option ℕ). q f.0) (cond t ((e.0, v) ∷ es) (e ∷ insert_entry nat_eq es n v))) s in
      let new = count_first (λ (f : ℕ × Option ℕ). q f.0) (e.0, v) es in
      let old = count_first (λ (f : ℕ × Option ℕ). q f.0) e es in
      omega (arith, list, new, old))
  | inr f ↦ (
      let list : count_by (λ f. q f.0) (insert_entry nat_eq (e ∷ es) n v) ≡ count_by (λ f. q f.0) (e ∷ insert_entry nat_eq es n v) =
      ap (λ t. count_by (λ (f : ℕ × Option ℕ). q f.0) (cond t ((e.0, v) ∷ es) (e ∷ insert_entry nat_eq es n v))) f in
      let new = count_first (λ (f : ℕ × Option ℕ). q f.0) e (insert_entry nat_eq es n v) in
      let old = count_first (λ (f : ℕ × Option ℕ). q f.0) e es in
      let rest = key_count q es n v own (sym (ap (λ t. cond t (Some e.1) (lookup (nat_eq n) es)) f) ∙ h) in
      omega (arith, list, new, old, rest))
]

pub length_again : (es : List (ℕ × Option ℕ)) (n : ℕ) (v own : Option ℕ) → lookup (nat_eq n) es ≡ Some own → length (insert_entry nat_eq es n v) ≡ length es
length_again [] n v own h = absurd (cc)
length_again (e ∷ es) n v own h = elim (test_is (nat_eq n e.0)) [
  | inl s ↦ ap (λ t. length (cond t ((e.0, v) ∷ es) (e ∷ insert_entry nat_eq es n v))) s
  | inr f ↦ ap (λ t. length (cond t ((e.0, v) ∷ es) (e ∷ insert_entry nat_eq es n v))) f
      ∙ ap suc (length_again es n v own (sym (ap (λ t. cond t (Some e.1) (lookup (nat_eq n) es)) f) ∙ h))
]

pub length_last : {X : Type 0} (xs : List X) (x : X) → length (xs ++ x ∷ []) ≡ length xs + 1
length_last [] x = refl
length_last (y ∷ ys) x = (let rest = length_last ys x in omega (arith, rest))

pub bit_few : (t : Bool) → one_if t ≤ 1
bit_few true = omega arith
bit_few false = omega arith

-- a node that is moved into a block is counted for it
pub moved_counted : (es : List (ℕ × Option ℕ)) (n b : ℕ) → lookup (nat_eq n) es ≡ Some (Some b) → 0 < into_count es b
moved_counted es n b h =
    let out = value_count (is_this b) es n None (Some b) h in
    let own : one_if (nat_eq b b) ≡ 1 = grind arith in
    omega (arith, out, own)

-- each node that is moved into a block was put into it, after one move more
pub put_more : (old new : List (ℕ × Option ℕ)) (before after : List (ℕ × ℕ)) (n : ℕ) (v : Option ℕ) → ((m c : ℕ) → has_put before m c ≡ true → has_put after m c ≡ true)
    → ((c : ℕ) → v ≡ Some c → has_put after n c ≡ true) → ((m : ℕ) → lookup (nat_eq m) new ≡ cond (nat_eq m n) (Some v) (lookup (nat_eq m) old))
    → ((m c : ℕ) → lookup (nat_eq m) old ≡ Some (Some c) → has_put before m c ≡ true) → (m c : ℕ) → lookup (nat_eq m) new ≡ Some (Some c) → has_put after m c ≡ true
put_more old new before after n v kept here w h m c e = elim (test_is (nat_eq m n)) [
  | inl s ↦ (
      let is : Some v ≡ Some (Some c) = sym (ap (λ t. cond t (Some v) (lookup (nat_eq m) old)) s) ∙ sym (w m) ∙ e in
      let goal : v ≡ Some c = cc in
      subst (λ k. has_put after k c ≡ true) (sym (number_is m n s)) (here c goal))
  | inr f ↦ kept m c (h m c (sym (ap (λ t. cond t (Some v) (lookup (nat_eq m) old)) f) ∙ sym (w m) ∙ e))
]
