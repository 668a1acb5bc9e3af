-- Lists of neighbours, when one more edge is counted.
use Rattle.std.proofs.Common.{◌≡◌, ◌≢◌, ℕ, List, [], ◌∷◌, ◌++◌, refl, sym, ◌∙◌, ap, inl, inr, true, false, Bool, ◌&&◌, unwrap_or}
use Rattle.std.specs.Prelude.{nat_eq, nat_lt, ◌||◌}
use Rattle.std.specs.FinMap as map
use Rattle.std.specs.Cmp.{nat_eq_equiv}
use Rattle.std.proofs.lemmas.Bool.Decides.{eqb_tells}
use Rattle.std.proofs.lemmas.List.Folds.{list_any-append}
use Rattle.std.proofs.lemmas.Map.Keys.{IsDistinct-push}
use Rattle.std.specs.List.{IsDistinct}
use Rattle.graph_spec.specs.Graphs.{edge_cmp}
use Rattle.graph_spec.specs.Members.{has, Lists}
use Rattle.bisim_spec.specs.IndexGraphs.{SupportTable, support_at}
use Rattle.quotient.specs.QuotientNeighbours.{AreNeighbourLists, list_at, is_supported}
use Rattle.quotient.proofs.Looked.{same}

pub lists_same : (p q : ℕ → Bool) (xs : List ℕ) → ((m : ℕ) → q m ≡ p m) → Lists p xs → Lists q xs
lists_same p q xs e l = record { once = l.once; members = λ m. l.members m ∙ sym (e m) }

and_false : (t : Bool) → (t && false) ≡ false
and_false true = refl
and_false false = refl

or_false : (t : Bool) → (t || false) ≡ t
or_false true = refl
or_false false = refl

pub apart_first : (a b x y : ℕ) → x ≢ a → same (x, y) (a, b) ≡ false
apart_first a b x y d = elim (eqb_tells x a) [ inl s ↦ absurd (d s.1) | inr f ↦ rw f.0 refl ]

pub apart_second : (a b x y : ℕ) → y ≢ b → same (x, y) (a, b) ≡ false
apart_second a b x y d = elim (eqb_tells y b) [ inl s ↦ absurd (d s.1) | inr f ↦ rw f.0 (and_false (nat_eq x a)) ]

-- one more number behind a list
pub lists_pushed : (p q : ℕ → Bool) (xs : List ℕ) (b : ℕ) → Lists p xs → p b ≡ false → q b ≡ true → ((m : ℕ) → m ≢ b → q m ≡ p m) → Lists q (xs ++ b ∷ [])
lists_pushed p q xs b l out here other = record {
  once = IsDistinct-push nat_eq_equiv xs b l.once (l.members b ∙ out);
  members = λ m. list_any-append (nat_eq m) xs (b ∷ []) ∙ elim (eqb_tells m b) [
    | inl s ↦ (let none : has xs m ≡ false = l.members m ∙ ap p s.1 ∙ out in rw (none, s.0) (sym (ap q s.1 ∙ here)))
    | inr d ↦ rw d.0 (or_false (has xs m) ∙ l.members m ∙ sym (other m d.1))
  ];
}

empty_support : (a b : ℕ) → support_at map.empty a b ≡ 0
empty_support a b = ap (λ o. unwrap_or o 0) (map.get-empty edge_cmp (a, b))

lists_none : (p : ℕ → Bool) (xs : List ℕ) → xs ≡ [] → ((m : ℕ) → p m ≡ false) → Lists p xs
unfolding IsDistinct
lists_none p xs e out = rw e (record { once = tt; members = λ m. sym (out m) })

-- no supports, and empty lists
pub neighbour_lists_none : (t : SupportTable) (cs ps : List (List ℕ)) → t ≡ map.empty → ((a : ℕ) → list_at cs a ≡ []) → ((b : ℕ) → list_at ps b ≡ []) → AreNeighbourLists t cs ps
neighbour_lists_none t cs ps e c p =
    let none : (a b : ℕ) → is_supported t a b ≡ false = λ a b. ap (nat_lt 0) (ap (λ (m : SupportTable). support_at m a b) e ∙ empty_support a b) in
    record {
      children_are = λ a. lists_none (is_supported t a) (list_at cs a) (c a) (none a);
      parents_are = λ b. lists_none (λ a. is_supported t a b) (list_at ps b) (p b) (λ a. none a b);
    }

pub support_none : (t : SupportTable) (a b : ℕ) → t ≡ map.empty → support_at t a b ≡ 0
support_none t a b e = ap (λ (m : SupportTable). support_at m a b) e ∙ empty_support a b
