-- How many pairs begin at a block, and how many end there.
use Rattle.std.proofs.Common.{◌≡◌, ℕ, zero, suc, ◌+◌, ◌<◌, ◌≤◌, List, [], ◌∷◌, ◌++◌, length, take, Some, refl, sym, ◌∙◌, ap, subst, arith, inl, inr, true, cond, slice_get, count_by}
use Rattle.std.specs.Prelude.{nat_eq, slice_index, option_map}
use Rattle.std.specs.Map.{keys_of}
use Rattle.std.proofs.lemmas.Bool.{cases_lt}
use Rattle.std.proofs.lemmas.Bool.Decides.{eqb_tells}
use Rattle.std.proofs.lemmas.List.{take_all}
use Rattle.std.proofs.lemmas.List.Sums.{sum_by-append}
use Rattle.std.proofs.lemmas.Option.{slice_get-map}
use Rattle.quotient.specs.QuotientNeighbours.{one_if}
use Rattle.quotient.specs.QuotientTables.{UsesOne, GivesMore}
use Rattle.quotient_draft.proofs.AppliedDrafts.{take_next}

-- the key of an entry
pub key_at : (es : List ((ℕ × ℕ) × ℕ)) (i : ℕ) (p : ℕ × ℕ) (n : ℕ) → slice_get es i ≡ Some (p, n) → slice_get (keys_of es) i ≡ Some p
key_at es i p n e = slice_get-map (λ (x : (ℕ × ℕ) × ℕ). x.0) es i ∙ ap (option_map (λ (x : (ℕ × ℕ) × ℕ). x.0)) e

-- counts by a projection: by the first or by the second number of a pair
pub counts_more : (f : ℕ × ℕ → ℕ) (ps : List (ℕ × ℕ)) (p : ℕ × ℕ) (x : ℕ) → count_by (λ q. nat_eq x (f q)) (ps ++ p ∷ []) ≡ count_by (λ q. nat_eq x (f q)) ps + one_if (nat_eq x (f p))
counts_more f ps p x =
    let parts = sum_by-append (λ (q : ℕ × ℕ). cond (nat_eq x (f q)) 1 0) ps (p ∷ []) in
    omega (arith, parts)

pub counts_take : (f : ℕ × ℕ → ℕ) (ps : List (ℕ × ℕ)) (i : ℕ) (p : ℕ × ℕ) (x : ℕ) → slice_get ps i ≡ Some p
    → count_by (λ q. nat_eq x (f q)) (take (i + 1) ps) ≡ count_by (λ q. nat_eq x (f q)) (take i ps) + one_if (nat_eq x (f p))
counts_take f ps i p x e = ap (count_by (λ (q : ℕ × ℕ). nat_eq x (f q))) (take_next ps i p e) ∙ counts_more f (take i ps) p x

pub counts_cons : (f : ℕ × ℕ → ℕ) (q : ℕ × ℕ) (ps : List (ℕ × ℕ)) (x : ℕ) → count_by (λ r. nat_eq x (f r)) (q ∷ ps) ≡ one_if (nat_eq x (f q)) + count_by (λ r. nat_eq x (f r)) ps
counts_cons f q ps x =
    let parts = sum_by-append (λ (r : ℕ × ℕ). cond (nat_eq x (f r)) 1 0) (q ∷ []) ps in
    omega (arith, parts)

pub counts_most : (f : ℕ × ℕ → ℕ) (ps : List (ℕ × ℕ)) (i x : ℕ) → count_by (λ q. nat_eq x (f q)) (take i ps) ≤ count_by (λ q. nat_eq x (f q)) ps
counts_most f ps zero x = omega arith
counts_most f [] (suc i) x = omega arith
counts_most f (q ∷ ps) (suc i) x =
    let rest = counts_most f ps i x in
    let a = counts_cons f q (take i ps) x in
    let b = counts_cons f q ps x in
    omega (arith, rest, a, b)

-- capacity is reserved for each block of which a pair was met
pub reserved_met : (f : ℕ × ℕ → ℕ) (ps : List (ℕ × ℕ)) (i : ℕ) (p : ℕ × ℕ) (before after : List ℕ) → slice_get ps i ≡ Some p
    → ((x : ℕ) → 0 < count_by (λ q. nat_eq x (f q)) (take i ps) → count_by (λ q. nat_eq x (f q)) ps ≤ slice_index before x)
    → GivesMore before after → count_by (λ q. nat_eq (f p) (f q)) ps ≤ slice_index after (f p)
    → (x : ℕ) → 0 < count_by (λ q. nat_eq x (f q)) (take (i + 1) ps) → count_by (λ q. nat_eq x (f q)) ps ≤ slice_index after x
reserved_met f ps i p before after e met more here x some = elim (eqb_tells x (f p)) [
  | inl s ↦ subst (λ z. count_by (λ q. nat_eq z (f q)) ps ≤ slice_index after z) (sym s.1) here
  | inr d ↦ (
      let next = counts_take f ps i p x e in
      let zero_is : one_if (nat_eq x (f p)) ≡ 0 = ap one_if d.0 in
      let old = met x (omega (arith, some, next, zero_is)) in
      let rest = more.rest x in
      omega (arith, old, rest))
]

pub reserved_all : (f : ℕ × ℕ → ℕ) (ps : List (ℕ × ℕ)) (i : ℕ) (reserved : List ℕ) → length ps ≤ i
    → ((x : ℕ) → 0 < count_by (λ q. nat_eq x (f q)) (take i ps) → count_by (λ q. nat_eq x (f q)) ps ≤ slice_index reserved x) → (x : ℕ) → count_by (λ q. nat_eq x (f q)) ps ≤ slice_index reserved x
reserved_all f ps i reserved all met x = elim (cases_lt 0 (count_by (λ (q : ℕ × ℕ). nat_eq x (f q)) ps)) [
  | inl some ↦ met x (subst (λ (qs : List (ℕ × ℕ)). 0 < count_by (λ q. nat_eq x (f q)) qs) (sym (take_all i ps all)) some)
  | inr none ↦ omega (arith, none)
]

-- capacity that is used pair by pair
pub reserved_here : (f : ℕ × ℕ → ℕ) (ps : List (ℕ × ℕ)) (i : ℕ) (p : ℕ × ℕ) (reserved : List ℕ) → slice_get ps i ≡ Some p
    → ((x : ℕ) → count_by (λ q. nat_eq x (f q)) ps ≤ slice_index reserved x + count_by (λ q. nat_eq x (f q)) (take i ps)) → 0 < slice_index reserved (f p)
reserved_here f ps i p reserved e enough =
    let next = counts_take f ps i p (f p) e in
    let most = counts_most f ps (i + 1) (f p) in
    let have = enough (f p) in
    let same : nat_eq (f p) (f p) ≡ true = elim (eqb_tells (f p) (f p)) [ inl s ↦ s.0 | inr d ↦ absurd (d.1 refl) ] in
    let one : one_if (nat_eq (f p) (f p)) ≡ 1 = ap one_if same in
    omega (arith, next, most, have, one)

pub reserved_used : (f : ℕ × ℕ → ℕ) (ps : List (ℕ × ℕ)) (i : ℕ) (p : ℕ × ℕ) (reserved reserved2 : List ℕ) → slice_get ps i ≡ Some p
    → ((x : ℕ) → count_by (λ q. nat_eq x (f q)) ps ≤ slice_index reserved x + count_by (λ q. nat_eq x (f q)) (take i ps)) → UsesOne (f p) reserved reserved2
    → (x : ℕ) → count_by (λ q. nat_eq x (f q)) ps ≤ slice_index reserved2 x + count_by (λ q. nat_eq x (f q)) (take (i + 1) ps)
reserved_used f ps i p reserved reserved2 e enough used x =
    let next = counts_take f ps i p x e in
    let have = enough x in
    let rest = used.rest x in
    omega (arith, next, have, rest)
