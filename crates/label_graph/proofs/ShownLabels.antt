-- An entry of the table becomes a label.
use Rattle.std.proofs.Common.{◌≡◌, ℕ, zero, suc, ◌<◌, ◌≤◌, true, false, List, [], ◌∷◌, ◌++◌, length, map, Some, refl, sym, ap, ◌∙◌, subst, arith, append-nil, length-append, take, set, get_or, nat_eq, nat_lt}
use Rattle.std.specs.Prelude.{slice_get, bytes_eq, ◌||◌, if◌then◌else◌}
use Rattle.std.specs.List.{IsDistinct, list_any, AllByRecursion, swap}
use Rattle.std.proofs.lemmas.Bool.{eqb-true, eqb-false}
use Rattle.std.proofs.lemmas.Bool.Decides.{nat_tests}
use Rattle.std.proofs.lemmas.List.Edits.{length-swap, swap_is, swapped_from_swap}
use Rattle.std.proofs.lemmas.Map.Keys.{any_passes_from_place}
use Rattle.std.proofs.lemmas.Option.{slice_get-get_or}
use Rattle.std.proofs.Math.Seq.{take-append_seam}
use Rattle.graph_spec.specs.Graphs.{is_seen}
use Rattle.graph_spec.specs.Changes.{with_label}
use Rattle.label_graph.specs.LabelTable.{LabelTable, entries, table_of, with_shown, exchanged, renumbered, AreEntries}
use Rattle.label_graph.specs.ReservedGraphs.{entry_texts}
use Rattle.label_graph.proofs.Tables.{bytes_laws, texts-distinct, entries-of, swap-distinct, exchanged-second}

-- what holds of each item holds of the last
all_last : {X : Type 0} (P : X → Type 0) (xs : List X) (y : X) → AllByRecursion P (xs ++ y ∷ []) → P y
all_last P [] y h = h.0
all_last P (x ∷ xs) y h = all_last P xs y h.1

-- the last of distinct texts isn't among those before
last-new : (xs : List (List ℕ)) (y : List ℕ) → IsDistinct bytes_eq (xs ++ y ∷ []) → list_any (bytes_eq y) xs ≡ false
unfolding IsDistinct
last-new [] y d = refl
last-new (x ∷ xs) y d =
    ap (λ b. b || list_any (bytes_eq y) xs) (bytes_laws.symm y x ∙ all_last (λ z. bytes_eq x z ≡ false) xs y d.0) ∙ last-new xs y d.1

get-at : (front : List (List ℕ)) (x : List ℕ) (rest : List (List ℕ)) → slice_get (front ++ x ∷ rest) (length front) ≡ Some x
get-at [] x rest = refl
get-at (y ∷ ys) x rest = get-at ys x rest

pub get-more : (texts more : List (List ℕ)) (l : ℕ) → l < length texts → slice_get (texts ++ more) l ≡ slice_get texts l
get-more [] more l h = absurd (omega arith)
get-more (x ∷ xs) more zero h = refl
get-more (x ∷ xs) more (suc l) h = get-more xs more l (omega arith)

less : (n m : ℕ) → nat_lt n m ≡ true → n < m
less n m h = grind (arith, nat_tests)

not-less : (n m : ℕ) → nat_lt n m ≡ false → m ≤ n
not-less n m h = grind (arith, nat_tests)

-- the front of a list, with one behind that changed places with the next
front-set : {X : Type 0} (xs : List X) (n l : ℕ) (d : X) → n ≤ l → l < length xs
    → take (suc n) (set (set xs n (get_or xs l d)) l (get_or xs n d)) ≡ take n xs ++ get_or xs l d ∷ []
front-set [] n l d h k = absurd (omega (arith, k))
front-set (x ∷ xs) zero zero d h k = refl
front-set (x ∷ xs) zero (suc l) d h k = refl
front-set (x ∷ xs) (suc n) zero d h k = absurd (omega (arith, h))
front-set (x ∷ xs) (suc n) (suc l) d h k = ap (λ r. x ∷ r) (front-set xs n l d (omega arith) (omega arith))

-- The entry is a label now. The second function gives the numbers that entries have then.
pub record IsShown (table new : LabelTable) (l : ℕ) (number : ℕ → ℕ) : Type 0 where
  pub more : List (List ℕ)
  pub texts : new.texts ≡ table.texts ++ more
  pub size : length (entries new) ≡ length (entries table)
  pub once : IsDistinct bytes_eq (entries new)
  pub below : number l < length new.texts
  pub text : slice_get new.texts (number l) ≡ slice_get (entries table) l
  pub seen : (t : List ℕ) → slice_get (entries table) l ≡ Some t → new.texts ≡ with_label table.texts t
  pub names : (m : ℕ) → m < length (entries table) → get_or (entries new) (number m) [] ≡ get_or (entries table) m []
  pub within : (m : ℕ) → m < length (entries table) → number m < length (entries table)

module _ (table : LabelTable) (l : ℕ) (once : IsDistinct bytes_eq (entries table)) (entry : l < length (entries table)) where
  abbrev n : ℕ
  n = length table.texts

  abbrev keys : List (List ℕ)
  keys = entries table

  shown-before : l < n → IsShown table table l (λ m. m)
  shown-before h = record {
    more = [];
    texts = sym (append-nil table.texts);
    size = refl;
    once = once;
    below = h;
    text = sym (get-more table.texts table.ahead l h);
    seen = λ t e.
        ap (λ b. if b then table.texts else (table.texts ++ t ∷ []))
        (sym (any_passes_from_place (bytes_eq t) table.texts l t (sym (get-more table.texts table.ahead l h) ∙ e) (bytes_laws.refl t)));
    names = λ m k. refl;
    within = λ m k. k;
  }

  module _ (late : n ≤ l) where
    abbrev next : List (List ℕ)
    next = swap keys n l

    first : n < length keys
    first = omega (arith, late, entry)

    abbrev text : List ℕ
    text = get_or keys l []

    texts-next : take (suc n) next ≡ table.texts ++ text ∷ []
    texts-next =
        ap (take (suc n)) (sym (swap_is keys n l [] first entry)) ∙ front-set keys n l [] late entry
        ∙ ap (λ r. r ++ text ∷ []) (take-append_seam table.texts table.ahead)

    once-next : IsDistinct bytes_eq next
    once-next = swap-distinct keys n l first entry once

    unseen : is_seen table.texts text ≡ false
    unseen = last-new table.texts text (subst (IsDistinct bytes_eq) texts-next (texts-distinct (suc n) next once-next))

    text-is : slice_get keys l ≡ Some text
    text-is = slice_get-get_or keys l [] entry

    names-next : (m : ℕ) → m < length keys → get_or next (exchanged n l m) [] ≡ get_or keys m []
    names-next m h =
        let s = swapped_from_swap keys next n l [] first entry refl in
        elim (nat_eq m n) as (λ b. nat_eq m n ≡ b → get_or next (if b then l else (if nat_eq m l then n else m)) [] ≡ get_or keys m []) [
          | true ↦ λ q. s.1 ∙ ap (λ k. get_or keys k []) (sym (eqb-true m n q))
          | false ↦ λ q. elim (nat_eq m l) as (λ b. nat_eq m l ≡ b → get_or next (if b then n else m) [] ≡ get_or keys m []) [
            | true ↦ λ r. s.0 ∙ ap (λ k. get_or keys k []) (sym (eqb-true m l r))
            | false ↦ λ r. s.2 m (eqb-false m n q) (eqb-false m l r)
          ] refl
        ] refl

    within-next : (m : ℕ) → m < length keys → exchanged n l m < length keys
    within-next m h =
        elim (nat_eq m n) as (λ b. (if b then l else (if nat_eq m l then n else m)) < length keys) [
          | true ↦ entry
          | false ↦ elim (nat_eq m l) as (λ b. (if b then n else m) < length keys) [
            | true ↦ first
            | false ↦ h
          ]
        ]

    shown-next : IsShown table (table_of next (suc n)) l (exchanged n l)
    shown-next = record {
      more = text ∷ [];
      texts = texts-next;
      size = ap length (entries-of next (suc n)) ∙ length-swap keys n l;
      once = subst (IsDistinct bytes_eq) (sym (entries-of next (suc n))) once-next;
      below = omega (arith, exchanged-second n l, ap length texts-next, length-append table.texts (text ∷ []));
      text = ap (slice_get (take (suc n) next)) (exchanged-second n l) ∙ ap (λ r. slice_get r n) texts-next ∙ get-at table.texts text [] ∙ sym text-is;
      seen = λ t e.
          let same : text ≡ t = (let both : Some text ≡ Some t = sym text-is ∙ e in cc) in
          texts-next ∙ ap (λ x. table.texts ++ x ∷ []) same
          ∙ ap (λ b. if b then table.texts else (table.texts ++ t ∷ [])) (sym (ap (is_seen table.texts) (sym same) ∙ unseen));
      names = λ m h. ap (λ k. get_or k (exchanged n l m) []) (entries-of next (suc n)) ∙ names-next m h;
      within = within-next;
    }

  pub is_shown : IsShown table (with_shown table l) l (renumbered table l)
  is_shown =
      elim (nat_lt l n) as (λ b. nat_lt l n ≡ b
      → IsShown table (if b then table else table_of (swap keys n l) (suc n)) l (λ m. if b then m else exchanged n l m)) [
        | true ↦ λ q. shown-before (less l n q)
        | false ↦ λ q. shown-next (not-less l n q)
      ] refl

-- numbers that stand for the same texts
module _ (table new : LabelTable) (l : ℕ) (number : ℕ → ℕ) (s : IsShown table new l number) where
  pub entries-shown : (ls : List ℕ) → AreEntries (length (entries table)) ls → AreEntries (length (entries new)) (map number ls)
  entries-shown [] a = tt
  entries-shown (m ∷ ms) a = (omega (arith, s.size, s.within m a.0), entries-shown ms a.1)

  pub texts-shown : (ls : List ℕ) → AreEntries (length (entries table)) ls → entry_texts new (map number ls) ≡ entry_texts table ls
  texts-shown [] a i = []
  texts-shown (m ∷ ms) a i = s.names m a.0 i ∷ texts-shown ms a.1 i

-- where an entry keeps its number, all do
number-kept : (table : LabelTable) (l : ℕ) → renumbered table l l ≡ l → (m : ℕ) → renumbered table l m ≡ m
number-kept table l e m =
    let n = length table.texts in
    elim (nat_lt l n) as (λ b. (if b then l else exchanged n l l) ≡ l → (if b then m else exchanged n l m) ≡ m) [
      | true ↦ λ h. refl
      | false ↦ λ h.
          let same : n ≡ l = sym (exchanged-second n l) ∙ h in
          elim (nat_eq m n) as (λ b. nat_eq m n ≡ b → (if b then l else (if nat_eq m l then n else m)) ≡ m) [
            | true ↦ λ q. sym (eqb-true m n q ∙ same)
            | false ↦ λ q. elim (nat_eq m l) as (λ b. nat_eq m l ≡ b → (if b then n else m) ≡ m) [
              | true ↦ λ r. same ∙ sym (eqb-true m l r)
              | false ↦ λ r. refl
            ] refl
          ] refl
    ] e

pub numbers-kept : (table : LabelTable) (l : ℕ) → renumbered table l l ≡ l → (ls : List ℕ) → ls ≡ map (renumbered table l) ls
numbers-kept table l e [] i = []
numbers-kept table l e (m ∷ ms) i = sym (number-kept table l e m) i ∷ numbers-kept table l e ms i

-- where it doesn't, it wasn't a label, and the first number ahead is its number now
number-moved : (table : LabelTable) (l : ℕ) → (renumbered table l l ≡ l → ⊥) → (m : ℕ) → renumbered table l m ≡ exchanged (renumbered table l l) l m
number-moved table l e m =
    let n = length table.texts in
    elim (nat_lt l n) as (λ b. ((if b then l else exchanged n l l) ≡ l → ⊥) → (if b then m else exchanged n l m) ≡ exchanged (if b then l else exchanged n l l) l m) [
      | true ↦ λ h. absurd (h refl)
      | false ↦ λ h. ap (λ k. exchanged k l m) (sym (exchanged-second n l))
    ] e

pub numbers-moved : (table : LabelTable) (l : ℕ) → (renumbered table l l ≡ l → ⊥) → (ls : List ℕ) → map (exchanged (renumbered table l l) l) ls ≡ map (renumbered table l) ls
numbers-moved table l e [] i = []
numbers-moved table l e (m ∷ ms) i = sym (number-moved table l e m) i ∷ numbers-moved table l e ms i
