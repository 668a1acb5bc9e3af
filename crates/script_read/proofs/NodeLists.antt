-- Lists of nodes with a comma (44) between each two.
use Rattle.std.proofs.Common.{◌≡◌, ◌≢◌, ℕ, zero, suc, ◌+◌, ◌-◌, ◌<◌, ◌≤◌, ◌^◌, Bool, true, false, List, [], ◌∷◌, ◌++◌, length, take, drop, map, Option, None, Some, refl, sym, ap, ◌∙◌, arith, cond, Bor}
use Rattle.std.proofs.lemmas.Grind.{common_steps}
use Rattle.std.proofs.lemmas.Bool.Decides.{nat_tests}
use Rattle.std.specs.Prelude.{◌==◌, nat_lt, MatchOption}
use Rattle.std.specs.List.{position, position_or_len, slice_split, AllByRecursion}
use Rattle.std.proofs.lemmas.List.Splits.{slice_split_first, slice_split_none}
use Rattle.std.proofs.lemmas.List.Sums.{fails_before_first}
use Rattle.graph_spec.specs.Words.{node_word}
use Rattle.script_read.specs.Commands.{parts, SpellsNodes}

abbrev is_comma : ℕ → Bool
is_comma b = b == 44

found : (xs : List ℕ) (n : ℕ) → Some n ≡ position is_comma xs → (position_or_len is_comma xs < length xs) × (n ≡ position_or_len is_comma xs)
found xs n e =
    elim (nat_lt (position_or_len is_comma xs) (length xs)) as (λ t. nat_lt (position_or_len is_comma xs) (length xs) ≡ t → Some n ≡ cond t (Some (position_or_len is_comma xs)) None → (position_or_len is_comma xs < length xs) × (n ≡ position_or_len is_comma xs)) [
      | true ↦ λ t f. (grind (arith, nat_tests), cc)
      | false ↦ λ t f. cc
    ] refl e

absent : (xs : List ℕ) → None ≡ position is_comma xs → length xs ≤ position_or_len is_comma xs
absent xs e =
    elim (nat_lt (position_or_len is_comma xs) (length xs)) as (λ t. nat_lt (position_or_len is_comma xs) (length xs) ≡ t → None ≡ cond t (Some (position_or_len is_comma xs)) None → length xs ≤ position_or_len is_comma xs) [
      | true ↦ λ t f. cc
      | false ↦ λ t f. grind (arith, nat_tests)
    ] refl e

take_whole : (xs : List ℕ) (n : ℕ) → n ≡ length xs → take n xs ≡ xs
take_whole xs n e = grind (arith, common_steps)

whole_tail : (back : List ℕ) → take (length back - 1) (drop 1 back) ≡ drop 1 back
whole_tail [] = refl
whole_tail (b ∷ bs) = take_whole bs (length (b ∷ bs) - 1) (omega arith)

tail_drop : (n : ℕ) (xs : List ℕ) → drop 1 (drop n xs) ≡ drop (suc n) xs
tail_drop zero xs = refl
tail_drop (suc n) [] = refl
tail_drop (suc n) (x ∷ xs) = tail_drop n xs

drop_on : (n : ℕ) (xs back : List ℕ) → back ≡ drop n xs → take (length back - 1) (drop 1 back) ≡ drop (n + 1) xs
drop_on n xs back e = (let m : suc n ≡ n + 1 = omega arith in whole_tail back ∙ ap (drop 1) e ∙ tail_drop n xs ∙ ap (λ k. drop k xs) m)

-- the text has a comma, or none
pub parts_more : (xs : List ℕ) (n : ℕ) (front back : List ℕ) → Some n ≡ position is_comma xs → front ≡ take n xs → back ≡ drop n xs → parts xs ≡ front ∷ parts (take (length back - 1) (drop 1 back))
parts_more xs n front back e f b =
    let p = found xs n e in
    slice_split_first is_comma xs 0 p.0
    ∙ ap (λ k. take k xs ∷ slice_split is_comma (drop (k + 1) xs)) (sym p.1)
    ∙ ap (λ w. w ∷ slice_split is_comma (drop (n + 1) xs)) (sym f)
    ∙ ap (λ r. front ∷ slice_split is_comma r) (sym (drop_on n xs back b))

pub parts_last : (xs : List ℕ) → None ≡ position is_comma xs → parts xs ≡ xs ∷ []
parts_last xs e = (let h = absent xs e in slice_split_none is_comma xs (λ k d l. fails_before_first is_comma xs k d (omega (arith, l, h))))

map_more : (ns : List ℕ) (n : ℕ) (ws : List (List ℕ)) → map node_word ns ++ node_word n ∷ ws ≡ map node_word (ns ++ n ∷ []) ++ ws
map_more [] n ws = refl
map_more (x ∷ ns) n ws = ap (λ l. node_word x ∷ l) (map_more ns n ws)

pub small_more : (ns : List ℕ) (n : ℕ) → AllByRecursion (λ m. m < 2 ^ 32) ns → n < 2 ^ 32 → AllByRecursion (λ m. m < 2 ^ 32) (ns ++ n ∷ [])
small_more [] n a l = (l, tt)
small_more (x ∷ ns) n a l = (a.0, small_more ns n a.1 l)

-- one more node is read
pub list_more : (word text part : List ℕ) (ws : List (List ℕ)) (ns : List ℕ) (n : ℕ) → parts word ≡ map node_word ns ++ parts text → parts text ≡ part ∷ ws → part ≡ node_word n
    → parts word ≡ map node_word (ns ++ n ∷ []) ++ ws
list_more word text part ws ns n h p e = h ∙ ap (λ l. map node_word ns ++ l) (p ∙ ap (λ w. w ∷ ws) e) ∙ map_more ns n ws

append_none : (ws : List (List ℕ)) → ws ++ [] ≡ ws
append_none [] = refl
append_none (w ∷ ws) = ap (λ l. w ∷ l) (append_none ws)

-- and the last one
pub list_end : (word text part : List ℕ) (ns : List ℕ) (n : ℕ) → parts word ≡ map node_word ns ++ parts text → parts text ≡ part ∷ [] → part ≡ node_word n
    → AllByRecursion (λ m. m < 2 ^ 32) ns → n < 2 ^ 32 → SpellsNodes word (ns ++ n ∷ [])
list_end word text part ns n h p e a l = (list_more word text part [] ns n h p e ∙ append_none _, small_more ns n a l)

no_list : (ns all : List ℕ) (part : List ℕ) (ws : List (List ℕ)) → map node_word ns ++ part ∷ ws ≡ map node_word all → AllByRecursion (λ m. m < 2 ^ 32) all
    → ((n : ℕ) → n < 2 ^ 32 → part ≢ node_word n) → ⊥
no_list [] [] part ws e a none = cc
no_list [] (y ∷ ys) part ws e a none = (let first : part ≡ node_word y = cc in none y a.0 first)
no_list (x ∷ ns) [] part ws e a none = cc
no_list (x ∷ ns) (y ∷ ys) part ws e a none = (let rest : map node_word ns ++ part ∷ ws ≡ map node_word ys = cc in no_list ns ys part ws rest a.1 none)

-- the first part, whether or not more follow
pub first_is : (rest : Option (Bor (List ℕ))) (xs part : List ℕ) → MatchOption rest (parts xs ≡ part ∷ []) (λ r. parts xs ≡ part ∷ parts r.now) → (ws : List (List ℕ)) × (parts xs ≡ part ∷ ws)
first_is None xs part h = ([], h)
first_is (Some r) xs part h = (parts r.now, h)

-- this part is no node
pub list_bad : (word text part : List ℕ) (ws : List (List ℕ)) (ns : List ℕ) → parts word ≡ map node_word ns ++ parts text → parts text ≡ part ∷ ws
    → ((n : ℕ) → n < 2 ^ 32 → part ≢ node_word n) → (all : List ℕ) → SpellsNodes word all → ⊥
list_bad word text part ws ns h p none all s = no_list ns all part ws (ap (λ l. map node_word ns ++ l) (sym p) ∙ sym h ∙ s.0) s.1 none
