-- Keys with the own block.
use Rattle.std.proofs.Common.{◌≡◌, ℕ, ◌⊎◌, List, Option, Some, IsSome, is_some, IsTrue, Bool, true, ◌&&◌, ◌||◌, refl, sym, ◌∙◌, ap, inl, inr}
use Rattle.std.specs.Prelude.{nat_eq}
use Rattle.std.proofs.lemmas.Bool.{or_cases, or_left, or_right, and_parts, and_from}
use Rattle.std.proofs.lemmas.Bool.Decides.{Decides-eqb}
use Rattle.graph_spec.specs.Members.{at, has, Lists}
use Rattle.bisim_spec.proofs.Bisimilar.{is_some_at, some_of}
use Rattle.bisim_spec.specs.NodeKeys.{IsKey, IsWritten}
use Rattle.index_check.specs.ClosedParents.{is_closed_parent}

pub closed_parent : (block : List (Option ℕ)) (edge : ℕ → ℕ → Bool) (p n : ℕ) → IsTrue (edge p n) → IsTrue (is_closed_parent block edge p n)
closed_parent block edge p n e = or_left (edge p n) (nat_eq p n && is_some (at block p)) e

pub closed_self : (block : List (Option ℕ)) (edge : ℕ → ℕ → Bool) (n b : ℕ) → at block n ≡ Some b → IsTrue (is_closed_parent block edge n n)
closed_self block edge n b e =
    or_right (edge n n) (nat_eq n n && is_some (at block n)) (and_from (nat_eq n n) (is_some (at block n)) ((Decides-eqb n n).1 refl) (is_some_at (at block n) b e))

pub closed_cases : (block : List (Option ℕ)) (edge : ℕ → ℕ → Bool) (p n : ℕ) → IsTrue (is_closed_parent block edge p n) → IsTrue (edge p n) ⊎ ((p ≡ n) × IsSome (at block p))
closed_cases block edge p n h = elim (or_cases (edge p n) (nat_eq p n && is_some (at block p)) h) [
  | inl e ↦ inl e
  | inr s ↦ (let parts = and_parts (nat_eq p n) (is_some (at block p)) s in inr ((Decides-eqb p n).0 parts.0, parts.1))
]

-- each of these has a block
pub closed_block : (block : List (Option ℕ)) (edge : ℕ → ℕ → Bool) → ((p n : ℕ) → IsTrue (edge p n) → (b : ℕ) × (at block p ≡ Some b))
    → (p n : ℕ) → IsTrue (is_closed_parent block edge p n) → (b : ℕ) × (at block p ≡ Some b)
closed_block block edge blocks p n h = elim (closed_cases block edge p n h) [ inl e ↦ blocks p n e | inr (same, some) ↦ some_of (at block p) some ]

-- the key that is written of a list of them
pub key_of_closed : (own : ℕ → Option ℕ) (base : List (Option ℕ)) (edge : ℕ → ℕ → Bool) (n number : ℕ) (parents nodes key : List ℕ) → Lists (λ p. edge p n) parents
    → ((m : ℕ) → has nodes m ≡ (has parents m || nat_eq m n)) → own n ≡ Some number → IsWritten (at base) nodes number key → IsKey own base (is_closed_parent base edge) n key
key_of_closed own base edge n number parents nodes key l is own_is w = record {
  number = number;
  around = w.around;
  is = w.is;
  own_is = own_is;
  rising = w.images.rising;
  each = λ b h.
      let p = w.images.each b h in
      let found : (edge p.0 n || nat_eq p.0 n) ≡ true = ap (λ x. x || nat_eq p.0 n) (sym (l.members p.0)) ∙ sym (is p.0) ∙ p.1 in (
        p.0,
        elim (or_cases (edge p.0 n) (nat_eq p.0 n) found) [
          | inl e ↦ closed_parent base edge p.0 n e
          | inr same ↦
              or_right (edge p.0 n) (nat_eq p.0 n && is_some (at base p.0)) (and_from (nat_eq p.0 n) (is_some (at base p.0)) same (is_some_at (at base p.0) b p.2))
        ],
        p.2,
      );
  every = λ p b h e. w.images.every p b (is p ∙ elim (closed_cases base edge p n h) [
    | inl on ↦ or_left (has parents p) (nat_eq p n) (l.members p ∙ on)
    | inr (same, some) ↦ or_right (has parents p) (nat_eq p n) ((Decides-eqb p n).1 same)
  ]) e;
}
