-- Tables of lists, and counts of pairs.
use Rattle.std.proofs.Common.{◌≡◌, ℕ, zero, suc, ◌<◌, List, [], ◌∷◌, ◌++◌, refl, sym, ◌∙◌, ap, length, get_or, map as map_list}
use Rattle.std.proofs.Math.ListN.{replicate}
use Rattle.std.proofs.lemmas.Option.{slice_get-map, slice_get-get_or, get_or_from_slice_get}
use Rattle.std.specs.Prelude.{option_map, Some}
use Rattle.quotient.specs.QuotientNeighbours.{pairs_with, list_at}

-- the list that a value of a table of lists gives
pub item_at : {X : Type 0} (f : X → List ℕ) (xs : List X) (n : ℕ) (v : X) → n < length xs → v ≡ get_or xs n v → list_at (map_list f xs) n ≡ f v
item_at f xs n v h e = get_or_from_slice_get (map_list f xs) n (f v) [] (slice_get-map f xs n ∙ ap (option_map f) (slice_get-get_or xs n v h ∙ ap (λ w. Some w) (sym e)))

-- empty lists
pub list_of_none : (len n : ℕ) → list_at (replicate len []) n ≡ []
list_of_none zero n = refl
list_of_none (suc len) zero = refl
list_of_none (suc len) (suc n) = list_of_none len n

abbrev pub none_list : List ℕ
none_list = []

pub replicate_more : (len : ℕ) → replicate len none_list ++ none_list ∷ [] ≡ replicate (suc len) none_list
replicate_more zero = refl
replicate_more (suc len) = ap (λ (t : List (List ℕ)). none_list ∷ t) (replicate_more len)

-- no pairs wait
pub no_pairs : (pairs : List (ℕ × ℕ)) (x y : ℕ) → pairs ≡ [] → pairs_with pairs x y ≡ 0
no_pairs pairs x y e = ap (λ ps. pairs_with ps x y) e
