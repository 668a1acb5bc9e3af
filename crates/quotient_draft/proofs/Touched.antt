-- What a draft leaves as it is in the base.
use Rattle.std.proofs.Common.{◌≡◌, ◌≢◌, ℕ, ◌<◌, List, [], ◌∷◌, Option, None, refl, sym, ◌∙◌, ap, arith, inl, inr, true, false, Bool, ◌&&◌, ◌||◌, not, true≢false}
use Rattle.std.specs.Prelude.{nat_eq, nat_lt}
use Rattle.std.specs.List.{list_any}
use Rattle.std.specs.Map.{lookup, keys_of}
use Rattle.std.specs.Option.{option_map_or}
use Rattle.std.proofs.lemmas.Bool.{cases_Bool, or_cases, or_left, or_right, and_parts, and_from, both_ways}
use Rattle.std.proofs.lemmas.Bool.Decides.{Decides-eqb, Decides-ltb, eqb_tells}
use Rattle.smallvec.specs.SmallVec.{SmallVec}
use Rattle.graph_spec.specs.Members.{has, Lists}
use Rattle.bisim_spec.specs.IndexGraphs.{SupportTable, support_at}
use Rattle.quotient_draft.specs.Drafts.{with_supports}
use Rattle.quotient_draft.specs.PairEnds.{listed, ends_onto}
use Rattle.quotient_draft.proofs.Noted.{unlisted_onto}
use Rattle.quotient_draft.proofs.DraftedMoves.{supports_absent}

-- a number that is no key has no entry
pub unkeyed : {X : Type 0} (es : List (ℕ × X)) (b : ℕ) → has (keys_of es) b ≡ false → lookup (nat_eq b) es ≡ None
unkeyed [] b h = refl
unkeyed (e ∷ es) b h = rw (first (nat_eq b e.0) (has (keys_of es) b) h) (unkeyed es b (second (nat_eq b e.0) (has (keys_of es) b) h))
  where
    first : (p q : Bool) → (p || q) ≡ false → p ≡ false
    first false q h = refl
    first true q h = h

    second : (p q : Bool) → (p || q) ≡ false → q ≡ false
    second false q h = h
    second true q h = absurd (true≢false h)

-- where no drafted pair ends at a block, each support to it is that of the base
pub unended : (t : SupportTable) (es : List ((ℕ × ℕ) × ℕ)) (onto : List (ℕ × SmallVec ℕ)) (a b : ℕ) → ((x : ℕ) → listed onto x ≡ ends_onto (keys_of es) x)
    → has (keys_of onto) b ≡ false → support_at (with_supports t es) a b ≡ support_at t a b
unended t es onto a b are h =
    let none : listed onto b ≡ [] = ap (λ (o : Option (SmallVec ℕ)). option_map_or (λ v. v.items) o []) (unkeyed onto b h) in
    supports_absent t es a b (unlisted_onto es a b (ap (λ xs. has xs a) (sym (are b) ∙ none)))

-- a test that some number of a list passes
pub any_get : (p : ℕ → Bool) (xs : List ℕ) → list_any p xs ≡ true → (a : ℕ) × (has xs a ≡ true) × (p a ≡ true)
any_get p [] h = absurd (true≢false (sym h))
any_get p (x ∷ xs) h = elim (or_cases (p x) (list_any p xs) h) [
  | inl here ↦ (x, or_left (nat_eq x x) (has xs x) ((Decides-eqb x x).1 refl), here)
  | inr there ↦ (let r = any_get p xs there in (r.0, or_right (nat_eq r.0 x) (has xs r.0) r.1, r.2))
]

pub any_from : (p : ℕ → Bool) (xs : List ℕ) (a : ℕ) → has xs a ≡ true → p a ≡ true → list_any p xs ≡ true
any_from p [] a h k = absurd (true≢false (sym h))
any_from p (x ∷ xs) a h k = elim (or_cases (nat_eq a x) (has xs a) h) [
  | inl here ↦ or_left (p x) (list_any p xs) (ap p (sym ((Decides-eqb a x).0 here)) ∙ k)
  | inr there ↦ or_right (p x) (list_any p xs) (any_from p xs a there k)
]

-- whether a block is other than b and has support to it
abbrev pub is_other : (ℕ → ℕ) → ℕ → ℕ → Bool
is_other support b a = not (nat_eq a b) && nat_lt 0 (support a)

not_true : (t : Bool) → not t ≡ true → t ≡ false
not_true false h = refl
not_true true h = absurd (true≢false (sym h))

pub other_found : (support : ℕ → ℕ) (b : ℕ) (xs : List ℕ) (r : Bool) → r ≡ list_any (is_other support b) xs → r ≡ true → (a : ℕ) × (a ≢ b) × (0 < support a)
other_found support b xs r e h =
    let found = any_get (is_other support b) xs (sym e ∙ h) in
    let parts = and_parts (not (nat_eq found.0 b)) (nat_lt 0 (support found.0)) found.2 in
    (found.0, (λ same. true≢false (sym ((Decides-eqb found.0 b).1 same) ∙ not_true (nat_eq found.0 b) parts.0)), (Decides-ltb 0 (support found.0)).0 parts.1)

-- Where none is among those that have support in the base, and none among those outside of which supports are as in the
-- base, there is none.
pub others_none : (support old : ℕ → ℕ) (b : ℕ) (xs ys : List ℕ) (r : Bool) → list_any (is_other support b) xs ≡ false → r ≡ list_any (is_other support b) ys → r ≡ false
    → Lists (λ a. nat_lt 0 (old a)) xs → ((a : ℕ) → has ys a ≡ false → support a ≡ old a) → (a : ℕ) → a ≢ b → support a ≡ 0
others_none support old b xs ys r none e off l other a ne = elim (cases_Bool (nat_lt 0 (support a))) [
  | inr less ↦ zero_by (support a) less
  | inl more ↦ absurd (
      let passes : is_other support b a ≡ true = and_from (not (nat_eq a b)) (nat_lt 0 (support a)) (apart a b ne) more in
      elim (cases_Bool (has ys a)) [
        | inl there ↦ both_ways r off (e ∙ any_from (is_other support b) ys a there passes)
        | inr out ↦ both_ways (list_any (is_other support b) xs) none (any_from (is_other support b) xs a (l.members a ∙ ap (nat_lt 0) (sym (other a out)) ∙ more) passes)
      ])
]
  where
    apart : (x y : ℕ) → x ≢ y → not (nat_eq x y) ≡ true
    apart x y ne = elim (eqb_tells x y) [ inl s ↦ absurd (ne s.1) | inr d ↦ ap not d.0 ]

    zero_by : (n : ℕ) → nat_lt 0 n ≡ false → n ≡ 0
    zero_by n h = grind (arith, h)
