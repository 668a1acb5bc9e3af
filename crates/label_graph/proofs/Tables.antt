-- The table of labels, cut where the labels end.
use Rattle.std.proofs.Common.{◌≡◌, ℕ, zero, suc, ◌+◌, ◌≤◌, ◌<◌, true, false, List, [], ◌∷◌, ◌++◌, length, take, drop, Some, refl, sym, ap, ◌∙◌, arith, rules, append_assoc, get_or, set, nat_eq}
use Rattle.std.specs.Prelude.{slice_get, bytes_eq, if◌then◌else◌, nat_lt, Result, Ok, Err, OnOk, IfOk}
use Rattle.std.specs.List.{IsDistinct, swap}
use Rattle.std.specs.Cmp.{IsEquivalence}
use Rattle.std.specs.Cmp.Rules.{comparing}
use Rattle.std.proofs.lemmas.List.{length-take-le, take-append-drop}
use Rattle.std.proofs.lemmas.Bool.Decides.{nat_tests}
use Rattle.std.proofs.lemmas.Bool.{eqb-true}
use Rattle.std.proofs.lemmas.Cmp.{nat_eq_equiv}
use Rattle.std.proofs.lemmas.List.Sorted.{IsPermutation-swap}
use Rattle.std.proofs.lemmas.Map.Keys.{IsDistinct-push, IsDistinct-IsPermutation}
use Rattle.indexmap.proofs.MapLemmas.{distinct-take}
use Rattle.graph_spec.specs.Graphs.{is_seen}
use Rattle.label_graph.specs.LabelTable.{LabelTable, entries, table_of, with_shown, with_ahead, exchanged, renumbered}

pub bytes_laws : IsEquivalence bytes_eq
bytes_laws = search (comparing, rules)

pub texts-distinct : (n : ℕ) (keys : List (List ℕ)) → IsDistinct bytes_eq keys → IsDistinct bytes_eq (take n keys)
texts-distinct n keys d = distinct-take bytes_laws n keys d

pub entries-of : (keys : List (List ℕ)) (n : ℕ) → entries (table_of keys n) ≡ keys
entries-of keys n = take-append-drop n keys

-- one more text lies ahead
take-push : {X : Type 0} (xs : List X) (n : ℕ) (x : X) → n ≤ length xs → take n (xs ++ x ∷ []) ≡ take n xs
take-push xs zero x h = refl
take-push [] (suc n) x h = absurd (omega arith)
take-push (y ∷ ys) (suc n) x h = ap (λ l. y ∷ l) (take-push ys n x (omega arith))

drop-push : {X : Type 0} (xs : List X) (n : ℕ) (x : X) → n ≤ length xs → drop n (xs ++ x ∷ []) ≡ drop n xs ++ x ∷ []
drop-push xs zero x h = refl
drop-push [] (suc n) x h = absurd (omega arith)
drop-push (y ∷ ys) (suc n) x h = drop-push ys n x (omega arith)

pub put-ahead : (keys : List (List ℕ)) (n : ℕ) (t : List ℕ) → n ≤ length keys → table_of (keys ++ t ∷ []) n ≡ record { texts = take n keys; ahead = drop n keys ++ t ∷ [] }
put-ahead keys n t h i = record { texts = take-push keys n t h i; ahead = drop-push keys n t h i }

below-is : (l n : ℕ) → l < n → nat_lt l n ≡ true
below-is l n h = grind (arith, nat_tests)

above-is : (l n : ℕ) → n ≤ l → nat_lt l n ≡ false
above-is l n h = grind (arith, nat_tests)

-- two entries change places
set-same : {X : Type 0} (xs : List X) (n : ℕ) (d : X) → set xs n (get_or xs n d) ≡ xs
set-same [] n d = refl
set-same (x ∷ xs) zero d = refl
set-same (x ∷ xs) (suc n) d = ap (λ l. x ∷ l) (set-same xs n d)

pub swap-same : {X : Type 0} (xs : List X) (n : ℕ) → swap xs n n ≡ xs
swap-same [] n = refl
swap-same (x ∷ xs) n = ap (λ l. set l n (get_or (x ∷ xs) n x)) (set-same (x ∷ xs) n x) ∙ set-same (x ∷ xs) n x

pub swap-distinct : (keys : List (List ℕ)) (a b : ℕ) → a < length keys → b < length keys → IsDistinct bytes_eq keys → IsDistinct bytes_eq (swap keys a b)
swap-distinct keys a b p q d = IsDistinct-IsPermutation bytes_eq bytes_laws.symm keys (swap keys a b) (IsPermutation-swap keys (swap keys a b) a b p q refl) d

pub exchanged-second : (a b : ℕ) → exchanged a b b ≡ a
exchanged-second a b =
    elim (nat_eq b a) as (λ x. nat_eq b a ≡ x → (if x then b else (if nat_eq b b then a else b)) ≡ a) [
      | true ↦ λ q. eqb-true b a q
      | false ↦ λ q. ap (λ x. if x then a else b) (nat_eq_equiv.refl b)
    ] refl

-- an entry becomes a label
pub shown-more : (keys : List (List ℕ)) (n l : ℕ) → n ≤ length keys → n ≤ l → table_of (swap keys n l) (n + 1) ≡ with_shown (table_of keys n) l
shown-more keys n l h late =
    let next : n + 1 ≡ suc n = omega arith in
    let size = length-take-le n keys h in
    let test : nat_lt l (length (take n keys)) ≡ false = above-is l (length (take n keys)) (omega (arith, late, size)) in
    ap (table_of (swap keys n l)) next
    ∙ ap (λ k. table_of (swap k n l) (suc n)) (sym (entries-of keys n))
    ∙ ap (λ k. table_of (swap (entries (table_of keys n)) k l) (suc k)) (sym size)
    ∙ ap (λ b. if b then table_of keys n else table_of (swap (entries (table_of keys n)) (length (take n keys)) l) (suc (length (take n keys)))) (sym test)

pub shown-same : (keys : List (List ℕ)) (n l : ℕ) → n ≤ length keys → l < n → table_of keys n ≡ with_shown (table_of keys n) l
shown-same keys n l h early =
    let test : nat_lt l (length (take n keys)) ≡ true = below-is l (length (take n keys)) (omega (arith, early, length-take-le n keys h)) in
    ap (λ b. if b then table_of keys n else table_of (swap (entries (table_of keys n)) (length (take n keys)) l) (suc (length (take n keys)))) (sym test)

-- the number that it has then
pub number-more : (keys : List (List ℕ)) (n l : ℕ) → n ≤ length keys → n ≤ l → n ≡ renumbered (table_of keys n) l l
number-more keys n l h late =
    let size = length-take-le n keys h in
    let test : nat_lt l (length (take n keys)) ≡ false = above-is l (length (take n keys)) (omega (arith, late, size)) in
    sym (exchanged-second n l) ∙ ap (λ k. exchanged k l l) (sym size) ∙ ap (λ b. if b then l else exchanged (length (take n keys)) l l) (sym test)

pub number-same : (keys : List (List ℕ)) (n l : ℕ) → n ≤ length keys → l < n → l ≡ renumbered (table_of keys n) l l
number-same keys n l h early =
    let test : nat_lt l (length (take n keys)) ≡ true = below-is l (length (take n keys)) (omega (arith, early, length-take-le n keys h)) in
    ap (λ b. if b then l else exchanged (length (take n keys)) l l) (sym test)

-- a text that is no entry is put behind them
pub distinct-more : (keys : List (List ℕ)) (t : List ℕ) → IsDistinct bytes_eq keys → is_seen keys t ≡ false → IsDistinct bytes_eq (keys ++ t ∷ [])
distinct-more keys t d e = IsDistinct-push bytes_laws keys t d e

get_at_seam : {X : Type 0} (front : List X) (x : X) (rest : List X) → slice_get (front ++ x ∷ rest) (length front) ≡ Some x
get_at_seam [] x rest = refl
get_at_seam (y ∷ ys) x rest = get_at_seam ys x rest

-- what `put_ahead` leaves, where it succeeds
module _ {E : Type 0} (result : Result ℕ E) (before : LabelTable) where
  pub ahead-is : (old new : LabelTable) (t : List ℕ) → before ≡ old → is_seen (entries old) t ≡ false → OnOk result (new ≡ record before { ahead = before.ahead ++ t ∷ [] }) → OnOk result (new ≡ with_ahead old t)
  ahead-is old new t same unseen h =
      elim result as (λ r. OnOk r (new ≡ record before { ahead = before.ahead ++ t ∷ [] }) → OnOk r (new ≡ with_ahead old t)) [
        | Ok l ↦ λ e. e ∙ ap (λ s. record { texts = s.texts; ahead = s.ahead ++ t ∷ [] }) same
            ∙ ap (λ b. record { texts = old.texts; ahead = if b then old.ahead else (old.ahead ++ t ∷ []) }) (sym unseen)
        | Err x ↦ λ e. e
      ] h

  pub ahead-number : (new : LabelTable) (t : List ℕ) → OnOk result (new ≡ record before { ahead = before.ahead ++ t ∷ [] }) → IfOk result (λ l. l ≡ length (entries before))
      → IfOk result (λ l. slice_get (entries new) l ≡ Some t)
  ahead-number new t h n =
      elim result as (λ r. OnOk r (new ≡ record before { ahead = before.ahead ++ t ∷ [] }) → IfOk r (λ l. l ≡ length (entries before)) → IfOk r (λ l. slice_get (entries new) l ≡ Some t)) [
        | Ok l ↦ λ e k.
            ap (slice_get (entries new)) k
            ∙ ap (λ x. slice_get x (length (entries before))) (ap entries e ∙ sym (append_assoc before.texts before.ahead (t ∷ [])))
            ∙ get_at_seam (entries before) t []
        | Err x ↦ λ e k. k
      ] h n
