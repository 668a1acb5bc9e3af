-- Rising numbers from some number on.
use Rattle.std.proofs.Common.{◌≡◌, ℕ, zero, suc, ◌+◌, ◌<◌, ◌≤◌, true, false, List, [], ◌∷◌, ◌++◌, refl, sym, ap, ◌∙◌, arith, cond, None, Some, map, append-nil}
use Rattle.std.specs.Prelude.{nat_le, slice_get}
use Rattle.std.specs.List.{AllByRecursion, AllPairs, flat_map, join_with_byte}
use Rattle.std.specs.List.Sorted.{IsStrictlyIncreasing}
use Rattle.std.proofs.lemmas.Bool.Decides.{nat_tests}
use Rattle.std.proofs.lemmas.List.Elements.{recursion_from_All}
use Rattle.std.proofs.lemmas.List.Kept.{AllPairs-from_increasing}
use Rattle.graph_spec.specs.Words.{node_word}
use Rattle.extent_report.specs.PrintedAnswers.{nodes_line}
use Rattle.extent_report.specs.NodeTexts.{members_from, others_text}

-- each number is below all later ones
abbrev Rises : List ℕ → Type 0
Rises [] = Unit {0}
Rises (x ∷ xs) = AllByRecursion (λ y. x < y) xs × Rises xs

rises : (xs : List ℕ) → AllPairs (λ x y. x < y) xs → Rises xs
rises [] p = tt
rises (x ∷ xs) p = (
  recursion_from_All (λ y. x < y) xs (λ k d l. p zero (suc k) d (omega arith) (omega (arith, l))),
  rises xs (λ i j d l m. p (suc i) (suc j) d (omega (arith, l)) (omega (arith, m))),
)

keep_all : (n m : ℕ) (xs : List ℕ) → m ≤ n + 1 → AllByRecursion (λ y. n < y) xs → members_from xs m ≡ xs
keep_all n m [] h a = refl
keep_all n m (y ∷ ys) h a =
    let le : nat_le m y ≡ true = (let l = a.0 in grind (arith, nat_tests)) in
    ap (λ b. cond b (y ∷ members_from ys m) (members_from ys m)) le ∙ ap (λ r. y ∷ r) (keep_all n m ys h a.1)

first_passes : (m n : ℕ) (xs rest : List ℕ) → members_from xs m ≡ n ∷ rest → m ≤ n
first_passes m n [] rest e = cc
first_passes m n (x ∷ xs) rest e =
    elim (nat_le m x) as (λ b. nat_le m x ≡ b → cond b (x ∷ members_from xs m) (members_from xs m) ≡ n ∷ rest → m ≤ n) [
      | true ↦ λ t e. (let same : x ≡ n = cc in let l : m ≤ x = grind (arith, nat_tests) in omega (arith, same, l))
      | false ↦ λ _ e. first_passes m n xs rest e
    ] refl e

next : (xs : List ℕ) → Rises xs → (m n : ℕ) (rest : List ℕ) → members_from xs m ≡ n ∷ rest → members_from xs (n + 1) ≡ rest
next [] r m n rest e = cc
next (x ∷ xs) r m n rest e =
    elim (nat_le m x) as (λ b. nat_le m x ≡ b → cond b (x ∷ members_from xs m) (members_from xs m) ≡ n ∷ rest → members_from (x ∷ xs) (n + 1) ≡ rest) [
      | true ↦ λ t e.
          (let same : x ≡ n = cc in
          let tail : members_from xs m ≡ rest = cc in
          let l : m ≤ x = grind (arith, nat_tests) in
          let no : nat_le (n + 1) x ≡ false = grind (arith, nat_tests) in
          ap (λ b. cond b (x ∷ members_from xs (n + 1)) (members_from xs (n + 1))) no
          ∙ keep_all x (n + 1) xs (omega (arith, same)) r.0 ∙ sym (keep_all x m xs (omega (arith, l)) r.0) ∙ tail)
      | false ↦ λ t e.
          (let l : m ≤ n = first_passes m n xs rest e in
          let no : nat_le (n + 1) x ≡ false = grind (arith, nat_tests) in
          ap (λ b. cond b (x ∷ members_from xs (n + 1)) (members_from xs (n + 1))) no ∙ next xs r.1 m n rest e)
    ] refl e

begins : (xs : List ℕ) (n : ℕ) → Some n ≡ slice_get xs 0 → (rest : List ℕ) × (xs ≡ n ∷ rest)
begins [] n e = cc
begins (x ∷ xs) n e = (xs, (let same : n ≡ x = cc in ap (λ y. y ∷ xs) (sym same)))

-- the text of the next member, and of those after it
pub others_step : (members : List ℕ) → IsStrictlyIncreasing members → (m n : ℕ) → Some n ≡ slice_get (members_from members m) 0
    → others_text (members_from members m) ≡ 32 ∷ (node_word n ++ others_text (members_from members (n + 1)))
others_step members inc m n e =
    let b = begins (members_from members m) n e in
    ap others_text b.1 ∙ ap (λ r. 32 ∷ (node_word n ++ others_text r)) (sym (next members (rises members (AllPairs-from_increasing members inc)) m n b.0 b.1))

-- no member is left
pub others_end : (members : List ℕ) (m : ℕ) → None ≡ slice_get (members_from members m) 0 → others_text (members_from members m) ≡ []
others_end members m e = ended (members_from members m) e
  where
    ended : (xs : List ℕ) → None ≡ slice_get xs 0 → others_text xs ≡ []
    ended [] e = refl
    ended (x ∷ xs) e = cc

adjacent : (n : ℕ) (ns : List ℕ) → join_with_byte 32 (map node_word (n ∷ ns)) ≡ node_word n ++ others_text ns
adjacent n [] = sym (append-nil (node_word n))
adjacent n (m ∷ ns) = ap (λ t. node_word n ++ (32 ∷ t)) (adjacent m ns)

from_zero : (xs : List ℕ) → members_from xs 0 ≡ xs
from_zero [] = refl
from_zero (x ∷ xs) = ap (λ b. cond b (x ∷ members_from xs 0) (members_from xs 0)) (yes x) ∙ ap (λ r. x ∷ r) (from_zero xs)
  where
    yes : (x : ℕ) → nat_le 0 x ≡ true
    yes x = grind (arith, nat_tests)

-- the line of the nodes by its first node
pub line_by_first : (members : List ℕ) → IsStrictlyIncreasing members → (n : ℕ) → Some n ≡ slice_get (members_from members 0) 0
    → nodes_line members ≡ (node_word n ++ others_text (members_from members (n + 1))) ++ 10 ∷ []
line_by_first members inc n e =
    let b = begins (members_from members 0) n e in
    let whole : members ≡ n ∷ b.0 = sym (from_zero members) ∙ b.1 in
    let rest : members_from members (n + 1) ≡ b.0 = next members (rises members (AllPairs-from_increasing members inc)) 0 n b.0 b.1 in
    ap nodes_line whole ∙ ap (λ t. t ++ 10 ∷ []) (adjacent n b.0) ∙ ap (λ r. (node_word n ++ others_text r) ++ 10 ∷ []) (sym rest)

others_joined : (ns : List ℕ) → flat_map (λ n. 32 ∷ node_word n) ns ≡ others_text ns
others_joined [] = refl
others_joined (n ∷ ns) = ap (λ t. 32 ∷ (node_word n ++ t)) (others_joined ns)

-- the line of nodes in any order
pub line_in_order : (n : ℕ) (ns : List ℕ) → nodes_line (n ∷ ns) ≡ (node_word n ++ flat_map (λ m. 32 ∷ node_word m) ns) ++ 10 ∷ []
line_in_order n ns = ap (λ t. t ++ 10 ∷ []) (adjacent n ns ∙ ap (λ t. node_word n ++ t) (sym (others_joined ns)))
