-- The members that stay, and then those that come, are the members as shown.
use Rattle.std.proofs.Common.{◌≡◌, ℕ, List, [], ◌∷◌, ◌++◌, Option, Some, None, refl, sym, ◌∙◌, ap, subst, true, false, Bool, ◌&&◌, ◌||◌, true≢false, filter, cond}
use Rattle.std.specs.Prelude.{nat_eq, is_none}
use Rattle.std.specs.List.{IsDistinct, AllByRecursion}
use Rattle.std.specs.Map.{lookup, keys_of}
use Rattle.std.proofs.lemmas.Bool.{and_parts, or_left, or_right}
use Rattle.std.proofs.lemmas.Bool.Decides.{Decides-eqb}
use Rattle.std.proofs.lemmas.List.Folds.{list_any-append}
use Rattle.std.proofs.lemmas.Map.Views.{any-filter_same}
use Rattle.graph_spec.specs.Members.{Lists, at, has, is_this}
use Rattle.quotient_draft.specs.Drafts.{with_moves}
use Rattle.quotient_draft.specs.PutLogs.{is_target, is_moved_to, is_kept}
use Rattle.quotient_draft.specs.ShownMembers.{is_unmoved}
use Rattle.quotient_draft.proofs.ListedMembers.{shown_members}
use Rattle.quotient_draft.proofs.SupportLists.{lists_none}
use Rattle.quotient_draft.proofs.Touched.{unkeyed}
use Rattle.quotient_draft.proofs.DraftedMoves.{number_is}

-- a number that is no block has no members
pub lists_no_members : (block : List (Option ℕ)) (b : ℕ) → ((n : ℕ) → at block n ≡ Some b → false ≡ true) → Lists (λ n. is_this b (at block n)) []
lists_no_members block b none = lists_none (λ n. is_this b (at block n)) (λ n. by n (at block n) refl)
  where
    by : (n : ℕ) (o : Option ℕ) → at block n ≡ o → is_this b o ≡ false
    by n None e = refl
    by n (Some c) e = part (nat_eq b c) refl
      where
        part : (t : Bool) → nat_eq b c ≡ t → nat_eq b c ≡ false
        part false h = h
        part true h = absurd (true≢false (sym (none n (e ∙ ap Some (sym ((Decides-eqb b c).0 h))))))

-- a list that is filtered
kept_all : (P : ℕ → Type 0) (p : ℕ → Bool) (xs : List ℕ) → AllByRecursion P xs → AllByRecursion P (filter p xs)
kept_all P p [] h = h
kept_all P p (x ∷ xs) h = by (p x) (kept_all P p xs h.1)
  where
    by : (t : Bool) → AllByRecursion P (filter p xs) → AllByRecursion P (cond t (x ∷ filter p xs) (filter p xs))
    by true rest = (h.0, rest)
    by false rest = rest

once_if : (x : ℕ) (xs : List ℕ) (t : Bool) → AllByRecursion (λ y. nat_eq x y ≡ false) xs → IsDistinct nat_eq xs → IsDistinct nat_eq (cond t (x ∷ xs) xs)
unfolding IsDistinct
once_if x xs true h k = (h, k)
once_if x xs false h k = k

kept_once : (p : ℕ → Bool) (xs : List ℕ) → IsDistinct nat_eq xs → IsDistinct nat_eq (filter p xs)
unfolding IsDistinct
kept_once p [] h = h
kept_once p (x ∷ xs) h = once_if x (filter p xs) (p x) (kept_all (λ y. nat_eq x y ≡ false) p xs h.0) (kept_once p xs h.1)

has_kept : (p : ℕ → Bool) (xs : List ℕ) (n : ℕ) → has (filter p xs) n ≡ (p n && has xs n)
has_kept p xs n = any-filter_same (nat_eq n) p (p n) (λ k t. ap p (sym (number_is n k t))) xs

-- two lists that have no number in common
first_off : (s t : Bool) → (s || t) ≡ false → s ≡ false
first_off false t h = refl
first_off true t h = h

second_off : (s t : Bool) → (s || t) ≡ false → t ≡ false
second_off false t h = h
second_off true t h = absurd (true≢false h)

all_off : (x : ℕ) (ys : List ℕ) → has ys x ≡ false → AllByRecursion (λ y. nat_eq x y ≡ false) ys
all_off x [] h = tt
all_off x (y ∷ ys) h = (first_off (nat_eq x y) (has ys x) h, all_off x ys (second_off (nat_eq x y) (has ys x) h))

all_both : (P : ℕ → Type 0) (xs ys : List ℕ) → AllByRecursion P xs → AllByRecursion P ys → AllByRecursion P (xs ++ ys)
all_both P [] ys h k = k
all_both P (x ∷ xs) ys h k = (h.0, all_both P xs ys h.1 k)

apart_once : (xs ys : List ℕ) → IsDistinct nat_eq xs → IsDistinct nat_eq ys → ((n : ℕ) → has xs n ≡ true → has ys n ≡ false) → IsDistinct nat_eq (xs ++ ys)
unfolding IsDistinct
apart_once [] ys h k apart = k
apart_once (x ∷ xs) ys h k apart =
    (all_both (λ y. nat_eq x y ≡ false) xs ys h.0 (all_off x ys (apart x (or_left (nat_eq x x) (has xs x) ((Decides-eqb x x).1 refl)))), apart_once xs ys h.1 k (λ n there. apart n (or_right (nat_eq n x) (has xs n) there)))

-- who isn't moved isn't moved into the block
stays : (moves : List (ℕ × Option ℕ)) (b n : ℕ) → is_unmoved moves n ≡ true → is_moved_to moves b n ≡ false
stays moves b n h = by (lookup (nat_eq n) moves) h
  where
    by : (o : Option (Option ℕ)) → is_none o ≡ true → is_target b o ≡ false
    by None h = refl
    by (Some v) h = absurd (true≢false (sym h))

-- who is moved has a move
comes : (moves : List (ℕ × Option ℕ)) (b n : ℕ) → (is_moved_to moves b n && has (keys_of moves) n) ≡ is_moved_to moves b n
comes moves b n = by (has (keys_of moves) n) refl
  where
    and_on : (t : Bool) → (t && true) ≡ t
    and_on true = refl
    and_on false = refl

    and_off : (s t : Bool) → s ≡ false → (s && t) ≡ s
    and_off false t h = refl
    and_off true t h = absurd (true≢false h)

    by : (t : Bool) → has (keys_of moves) n ≡ t → (is_moved_to moves b n && has (keys_of moves) n) ≡ is_moved_to moves b n
    by true e = ap (λ t. is_moved_to moves b n && t) e ∙ and_on (is_moved_to moves b n)
    by false e = and_off (is_moved_to moves b n) (has (keys_of moves) n) (ap (is_target b) (unkeyed moves n e))

pub members_listed : (block : List (Option ℕ)) (moves : List (ℕ × Option ℕ)) (b : ℕ) (kept moved : List ℕ) → Lists (λ n. is_this b (at block n)) kept → moved ≡ keys_of moves → IsDistinct nat_eq moved
    → Lists (λ n. is_this b (at (with_moves block moves) n)) (filter (is_unmoved moves) kept ++ filter (is_moved_to moves b) moved)
members_listed block moves b kept moved l e once = record {
  once = apart_once (filter (is_unmoved moves) kept) (filter (is_moved_to moves b) moved) (kept_once (is_unmoved moves) kept l.once) (kept_once (is_moved_to moves b) moved once) (λ n there.
      let stay = and_parts (is_unmoved moves n) (has kept n) (sym (has_kept (is_unmoved moves) kept n) ∙ there) in
      has_kept (is_moved_to moves b) moved n ∙ ap (λ t. t && has moved n) (stays moves b n stay.0));
  members = λ n.
      list_any-append (nat_eq n) (filter (is_unmoved moves) kept) (filter (is_moved_to moves b) moved)
      ∙ ap (λ t. t || has (filter (is_moved_to moves b) moved) n) (has_kept (is_unmoved moves) kept n ∙ ap (λ t. is_unmoved moves n && t) (l.members n))
      ∙ ap (λ t. is_kept block moves b n || t) (has_kept (is_moved_to moves b) moved n ∙ ap (λ xs. is_moved_to moves b n && has xs n) e ∙ comes moves b n)
      ∙ shown_members block moves b n (subst (IsDistinct nat_eq) e once);
}
