-- Reserved capacity in a table of lists.
use Rattle.std.proofs.Common.{◌≡◌, ℕ, ◌+◌, ◌<◌, ◌≤◌, ◌-◌, take, List, [], ◌∷◌, sym, ◌∙◌, ap, arith, inl, inr, true≢false, length, get_or, slice_set, slice_index, subst, map as map_list}
use Rattle.std.specs.Prelude.{option_map, Some, None, slice_get, nat_eq, swap_remove, position, IfNone, IfSome, Option, false}
use Rattle.graph_spec.specs.Members.{has}
use Rattle.label_graph.proofs.Positions.{position-none}
use Rattle.std.proofs.lemmas.List.Quantifiers.{position-Some}
use Rattle.std.proofs.lemmas.Bool.Decides.{eqb_tells}
use Rattle.std.proofs.lemmas.List.{map-set, length-map, get_or-set_same, get_or-set_other, get_or_default}
use Rattle.std.proofs.lemmas.List.Sorted.{IsPermutation-swap_remove}
use Rattle.std.specs.List.Sorted.{IsPermutation}
use Rattle.std.proofs.lemmas.Option.{slice_get-map, slice_get-get_or, slice_get_within, get_or_from_slice_get}
use Rattle.quotient.specs.QuotientNeighbours.{list_at, one_if}
use Rattle.quotient.specs.QuotientTables.{UsesOne, GivesMore}

-- the number that a value of a table gives
pub number_at : {X : Type 0} (f : X → ℕ) (xs : List X) (n : ℕ) (v : X) → n < length xs → v ≡ get_or xs n v → slice_index (map_list f xs) n ≡ f v
number_at f xs n v h e = get_or_from_slice_get (map_list f xs) n (f v) 0 (slice_get-map f xs n ∙ ap (option_map f) (slice_get-get_or xs n v h ∙ ap (λ w. Some w) (sym e)))

-- and once a value is written
pub written_here : {X : Type 0} (f : X → ℕ) (xs : List X) (n : ℕ) (new : X) → n < length xs → slice_index (map_list f (slice_set xs n new)) n ≡ f new
written_here f xs n new h =
    let len : n < length (map_list f xs) = grind (arith, length-map, h) in
    ap (λ (ys : List ℕ). slice_index ys n) (map-set f xs n new) ∙ get_or-set_same (map_list f xs) n (f new) 0 len

written_there : {X : Type 0} (f : X → ℕ) (xs : List X) (n m : ℕ) (new : X) → (m ≡ n → ⊥) → slice_index (map_list f (slice_set xs n new)) m ≡ slice_index (map_list f xs) m
written_there f xs n m new d = ap (λ (ys : List ℕ). slice_index ys m) (map-set f xs n new) ∙ get_or-set_other (map_list f xs) n m (f new) 0 d

pub uses_one : {X : Type 0} (f : X → ℕ) (xs : List X) (n : ℕ) (old new : X) → n < length xs → old ≡ get_or xs n old → f old ≤ f new + 1 → UsesOne n (map_list f xs) (map_list f (slice_set xs n new))
uses_one f xs n old new h e less = record {
  rest = λ m. elim (eqb_tells m n) [
    | inl s ↦ (
        let is = s.1 in
        let before = ap (slice_index (map_list f xs)) is ∙ number_at f xs n old h e in
        let after = ap (slice_index (map_list f (slice_set xs n new))) is ∙ written_here f xs n new h in
        let one : one_if (nat_eq m n) ≡ 1 = ap one_if s.0 in
        omega (arith, before, after, one, less))
    | inr d ↦ (let same = written_there f xs n m new d.1 in omega (arith, same))
  ];
}

pub gives_more : {X : Type 0} (f : X → ℕ) (xs : List X) (n : ℕ) (old new : X) → n < length xs → old ≡ get_or xs n old → f old ≤ f new → GivesMore (map_list f xs) (map_list f (slice_set xs n new))
gives_more f xs n old new h e less = record {
  rest = λ m. elim (eqb_tells m n) [
    | inl s ↦ (
        let is = s.1 in
        let before = ap (slice_index (map_list f xs)) is ∙ number_at f xs n old h e in
        let after = ap (slice_index (map_list f (slice_set xs n new))) is ∙ written_here f xs n new h in
        omega (arith, before, after, less))
    | inr d ↦ (let same = written_there f xs n m new d.1 in omega (arith, same))
  ];
}

pub list_here : {X : Type 0} (f : X → List ℕ) (xs : List X) (n : ℕ) (new : X) → n < length xs → list_at (map_list f (slice_set xs n new)) n ≡ f new
list_here f xs n new h =
    let len : n < length (map_list f xs) = grind (arith, length-map, h) in
    ap (λ (ls : List (List ℕ)). list_at ls n) (map-set f xs n new) ∙ get_or-set_same (map_list f xs) n (f new) [] len

-- a number that is taken out of a list by its place
pub list_taken : (list xs ys : List ℕ) (i b : ℕ) → list ≡ xs → slice_get list i ≡ Some b → ys ≡ swap_remove xs i 0 → IsPermutation list (b ∷ ys)
list_taken list xs ys i b e at removed =
    let there : slice_get xs i ≡ Some b = ap (λ (zs : List ℕ). slice_get zs i) (sym e) ∙ at in
    let within = slice_get_within xs i b there in
    let last = get_or_default xs (length xs - 1) 0 b (omega (arith, within)) in
    subst (λ (zs : List ℕ). IsPermutation zs (b ∷ ys)) (sym e)
    (subst (λ (zs : List ℕ). IsPermutation xs (b ∷ zs)) (sym (removed ∙ ap (λ y. take (length xs - 1) (slice_set xs i y)) last))
    (IsPermutation-swap_remove xs i b within (sym (get_or_from_slice_get xs i b b there))))

pub uses_none : (n : ℕ) (reserved : List ℕ) → UsesOne n reserved reserved
uses_none n reserved = record { rest = λ m. omega arith }

-- a number that is found at no place isn't in the list
pub none_of : (xs : List ℕ) (b : ℕ) (o : Option ℕ) → o ≡ position (nat_eq b) xs → IfNone o (has xs b ≡ false)
none_of xs b None e = position-none (nat_eq b) xs (sym e)
none_of xs b (Some i) e = tt

pub some_of : (xs : List ℕ) (b : ℕ) (o : Option ℕ) → o ≡ position (nat_eq b) xs → IfSome o (λ i. slice_get xs i ≡ Some b)
some_of xs b None e = tt
some_of xs b (Some i) e =
    let found = position-Some (nat_eq b) xs i 0 (sym e) in
    slice_get-get_or xs i 0 found.0 ∙ ap (λ z. Some z) (elim (eqb_tells b (get_or xs i 0)) [ inl s ↦ sym s.1 | inr d ↦ absurd (true≢false (sym found.1 ∙ d.0)) ])
