-- The first place that passes, and the text there.
use Rattle.std.proofs.Common.{◌≡◌, ℕ, zero, suc, ◌+◌, ◌<◌, ◌≤◌, min, Bool, true, false, cond, List, [], ◌∷◌, length, take, None, Some, ap, sym, ◌∙◌, arith, length-take, not, get_or}
use Rattle.std.specs.Prelude.{position, bytes_eq, slice_get}
use Rattle.std.specs.List.{prefix_len, position_or_len, list_any, IsDistinct}
use Rattle.std.proofs.lemmas.List.Folds.{list_any_at}
use Rattle.std.proofs.lemmas.List.Quantifiers.{position-Some}
use Rattle.std.proofs.lemmas.List.Sums.{position_or_len_is}
use Rattle.std.proofs.lemmas.Map.Keys.{apart_from_distinct}
use Rattle.std.proofs.lemmas.Slice.Eq.{bytes_eq-Decides}
use Rattle.std.proofs.lemmas.Option.{slice_get_within, slice_get-get_or, get_or_from_slice_get}
use Rattle.label_graph.proofs.Tables.{bytes_laws}
use Rattle.graph_spec.proofs.ListLemmas.{found, is_found}
use Rattle.cell_lists.proofs.Positions.{missing, is_missing}
pub use Rattle.cell_lists.proofs.Positions.{position-none}

pub prefix_len-take : {X : Type 0} (p : X → Bool) (n : ℕ) (xs : List X) → prefix_len p (take n xs) ≡ min n (prefix_len p xs)
prefix_len-take p zero xs = omega arith
prefix_len-take p (suc n) [] = omega arith
prefix_len-take p (suc n) (x ∷ xs) =
    elim (p x) as (λ b. cond b (1 + prefix_len p (take n xs)) 0 ≡ min (suc n) (cond b (1 + prefix_len p xs) 0)) [
      | true ↦ omega (arith, prefix_len-take p n xs)
      | false ↦ omega arith
    ]

module _ {X : Type 0} (p : X → Bool) (xs : List X) (n : ℕ) where
  pub position-take-some : (i : ℕ) → position p xs ≡ Some i → i < n → position p (take n xs) ≡ Some i
  position-take-some i e h =
      let f = found (position_or_len p xs) (length xs) i e in
      is_found _ _ i (omega (arith, f.0, f.1, prefix_len-take (λ x. not (p x)) n xs, length-take n xs)) (omega (arith, f.0, f.1, prefix_len-take (λ x. not (p x)) n xs))

  pub position-take-late : (i : ℕ) → position p xs ≡ Some i → n ≤ i → position p (take n xs) ≡ None
  position-take-late i e h =
      let f = found (position_or_len p xs) (length xs) i e in
      is_missing _ _ (omega (arith, f.0, f.1, prefix_len-take (λ x. not (p x)) n xs, length-take n xs))

  pub position-take-none : position p xs ≡ None → position p (take n xs) ≡ None
  position-take-none e =
      let f = missing (position_or_len p xs) (length xs) e in
      is_missing _ _ (omega (arith, f, prefix_len-take (λ x. not (p x)) n xs, length-take n xs))

pub present : {X : Type 0} (p : X → Bool) (xs : List X) (i : ℕ) → position p xs ≡ Some i → list_any p xs ≡ true
present p [] i e = absurd (omega (arith, (found 0 0 i e).0))
present p (x ∷ xs) i e =
    let h = position-Some p (x ∷ xs) i x e in
    list_any_at p (x ∷ xs) i x h.0 h.1

-- the item there is the text that was looked for
pub text-at : (t : List ℕ) (texts : List (List ℕ)) (i : ℕ) → position (bytes_eq t) texts ≡ Some i → slice_get texts i ≡ Some t
text-at t texts i e =
    let h = position-Some (bytes_eq t) texts i t e in
    slice_get-get_or texts i t h.0 ∙ ap Some (sym ((bytes_eq-Decides t (get_or texts i t)).0 h.1))

-- a text is found where it stands, in a list of distinct texts
pub position-at : (texts : List (List ℕ)) (i : ℕ) (t : List ℕ) → IsDistinct bytes_eq texts → slice_get texts i ≡ Some t → position (bytes_eq t) texts ≡ Some i
position-at texts i t d e =
    let w = slice_get_within texts i t e in
    let s = get_or_from_slice_get texts i t t e in
    let at = position_or_len_is (bytes_eq t) texts i t (omega arith)
    (λ k h. bytes_laws.symm t (get_or texts k t) ∙ ap (bytes_eq (get_or texts k t)) (sym s) ∙ apart_from_distinct bytes_eq texts k i t d h w)
    (λ h. ap (bytes_eq t) s ∙ bytes_laws.refl t) in
    is_found _ _ i (omega (arith, at, w)) at
