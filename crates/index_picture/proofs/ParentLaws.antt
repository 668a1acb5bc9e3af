-- Whether each node of a block has a parent in another one.
use Rattle.std.proofs.Common.{◌≡◌, ℕ, ◌<◌, ◌⊎◌, Bool, true, false, List, [], ◌∷◌, ◌||◌, ◌&&◌, not, length, Option, None, Some, refl, sym, ◌∙◌, ap, arith, inl, inr, true≢false}
use Rattle.std.specs.List.{list_any}
use Rattle.std.proofs.lemmas.Bool.{or_cases, or_left, or_right, and_parts, and_from, cases_lt, cases_Bool}
use Rattle.std.proofs.lemmas.Bool.Decides.{Decides-eqb}
use Rattle.std.proofs.lemmas.List.{get_or_past}
use Rattle.graph_spec.specs.Members.{Lists, at, has, is_this}
use Rattle.graph_spec.proofs.MemberLaws.{has_cases, has_head, has_tail}
use Rattle.bisim_spec.specs.Below.{any_below, all_below}
use Rattle.bisim_spec.proofs.BelowLaws.{any_get, any_from, all_get, all_from}
use Rattle.index_picture.specs.DrawnBlocks.{has_parent_in, covers}

both_ways : (a b : Bool) → (a ≡ true → b ≡ true) → (b ≡ true → a ≡ true) → a ≡ b
both_ways true b f g = sym (f refl)
both_ways false true f g = g refl
both_ways false false f g = refl

any_found : (t : ℕ → Bool) (xs : List ℕ) → list_any t xs ≡ true → (u : ℕ) × (has xs u ≡ true) × (t u ≡ true)
any_found t [] h = absurd (true≢false (sym h))
any_found t (x ∷ xs) h = elim (or_cases (t x) (list_any t xs) h) [
  | inl e ↦ (x, has_head x xs, e)
  | inr r ↦ (let w = any_found t xs r in (w.0, has_tail x xs w.0 w.1, w.2))
]

any_has : (t : ℕ → Bool) (xs : List ℕ) (u : ℕ) → has xs u ≡ true → t u ≡ true → list_any t xs ≡ true
any_has t [] u h e = absurd (true≢false (sym h))
any_has t (x ∷ xs) u h e = elim (has_cases x xs u h) [
  | inl same ↦ or_left (t x) (list_any t xs) (ap t (sym same) ∙ e)
  | inr later ↦ or_right (t x) (list_any t xs) (any_has t xs u later e)
]

pub this_at : (b : ℕ) (o : Option ℕ) → is_this b o ≡ true → o ≡ Some b
this_at b None h = absurd (true≢false (sym h))
this_at b (Some c) h = ap Some (sym ((Decides-eqb b c).0 h))

-- a node with a block has a place in the list of blocks
pub block_within : (block : List (Option ℕ)) (a u : ℕ) → is_this a (at block u) ≡ true → u < length block
block_within block a u h = elim (cases_lt u (length block)) [
  | inl l ↦ l
  | inr past ↦ absurd (true≢false (sym h ∙ ap (is_this a) (get_or_past block u None past)))
]

-- a node of a list is in the block exactly if some node below the bound is, and in the list
pub parent_found : (edge : ℕ → ℕ → Bool) (block : List (Option ℕ)) (a n : ℕ) (xs : List ℕ) → Lists (λ u. edge u n) xs
    → list_any (λ u. is_this a (at block u)) xs ≡ has_parent_in edge block a n
parent_found edge block a n xs l =
    both_ways (list_any (λ u. is_this a (at block u)) xs) (has_parent_in edge block a n)
    (λ h.
    let w = any_found (λ u. is_this a (at block u)) xs h in
    any_from (length block) (λ u. edge u n && is_this a (at block u)) w.0 (block_within block a w.0 w.2)
    (and_from (edge w.0 n) (is_this a (at block w.0)) (sym (l.members w.0) ∙ w.1) w.2))
    (λ h.
    let w = any_get (length block) (λ u. edge u n && is_this a (at block u)) h in
    let both = and_parts (edge w.0 n) (is_this a (at block w.0)) w.2 in
    any_has (λ u. is_this a (at block u)) xs w.0 (l.members w.0 ∙ both.0) both.1)

covered_at : (m h : Bool) → (m ≡ true → h ≡ true) → (not m || h) ≡ true
covered_at true h f = f refl
covered_at false h f = refl

pub covers_all : (edge : ℕ → ℕ → Bool) (block : List (Option ℕ)) (a b : ℕ) → ((v : ℕ) → is_this b (at block v) ≡ true → has_parent_in edge block a v ≡ true) → covers edge block a b ≡ true
covers_all edge block a b h = all_from (length block) (λ v. not (is_this b (at block v)) || has_parent_in edge block a v) (λ v l. covered_at (is_this b (at block v)) (has_parent_in edge block a v) (h v))

pub covers_not : (edge : ℕ → ℕ → Bool) (block : List (Option ℕ)) (a b v : ℕ) → is_this b (at block v) ≡ true → has_parent_in edge block a v ≡ false → covers edge block a b ≡ false
covers_not edge block a b v m h = elim (cases_Bool (covers edge block a b)) [
  | inl all ↦ absurd (true≢false (sym (all_get (length block) (λ v. not (is_this b (at block v)) || has_parent_in edge block a v) all v (block_within block b v m)) ∙ ap (λ x. not x || has_parent_in edge block a v) m ∙ h))
  | inr off ↦ off
]
