-- The search, one distance after the other.
use Rattle.std.proofs.Common.{◌≡◌, ℕ, zero, suc, ◌+◌, ◌<◌, ◌≤◌, List, [], ◌∷◌, ◌++◌, length, sym, ◌∙◌, ap, subst, arith, inl, inr, Bool, ◌||◌, append-nil, take}
use Rattle.std.specs.Prelude.{nat_eq, slice_index}
use Rattle.std.specs.List.{IsDistinct}
use Rattle.std.proofs.lemmas.Bool.{cases_lt}
use Rattle.std.proofs.lemmas.List.{get_or_append_left, get_or_push, get_or_past, length-append, take-append-le, take_all}
use Rattle.graph_spec.specs.Members.{has, Lists}
use Rattle.graph_spec.specs.Shapes.{Shape, IsShape}
use Rattle.bisim_spec.specs.Reach.{within_distance}
use Rattle.affected_nodes.specs.AffectedSearches.{IsSpread, AreWithinDistance}
use Rattle.affected_nodes.proofs.MetChildren.{spread_on, spread_within, spread_longer}

-- The nodes within i edges are met, and how many they were for each fewer is noted. The children of those before the
-- place are met.
pub record IsSearched (s : Shape) (from : ℕ → Bool) (i place : ℕ) (met ends : List ℕ) : Type 0 where
  pub once : IsDistinct nat_eq met
  pub found : (n : ℕ) → has met n ≡ within_distance s from i n
  pub read : IsSpread s met place met
  pub past : place ≤ length met
  pub count : length ends ≡ i + 1
  pub fits : (j : ℕ) → slice_index ends j ≤ length met
  pub each : (j : ℕ) → j ≤ i → Lists (within_distance s from j) (take (slice_index ends j) met)

one_end : (m n : ℕ) (ends : List ℕ) (j : ℕ) → ends ≡ m ∷ [] → m ≤ n → slice_index ends j ≤ n
one_end m n ends zero e h = rw e h
one_end m n ends (suc j) e h = rw e (omega arith)

-- what is put into an empty set
pub met_first : (none met targets : List ℕ) → none ≡ [] → ((n : ℕ) → has met n ≡ (has none n || has targets n)) → (n : ℕ) → has met n ≡ has targets n
met_first none met targets e h n = h n ∙ ap (λ ks. has ks n || has targets n) e

-- the targets alone
pub searched_first : (s : Shape) (targets met ends : List ℕ) → IsDistinct nat_eq met → ((n : ℕ) → has met n ≡ has targets n) → ends ≡ length met ∷ []
    → IsSearched s (has targets) 0 0 met ends
searched_first s targets met ends once is e = record {
  once = once;
  found = is;
  read = record { prefix = ([], sym (append-nil met)); into = λ j n l h. absurd (omega (arith, l)); only = λ n h. inl h };
  past = omega arith;
  count = ap length e;
  fits = λ j. one_end (length met) (length met) ends j e (omega arith);
  each = λ j l.
      let zero_is : j ≡ 0 = omega (arith, l) in
      let all : take (slice_index ends j) met ≡ met = ap (λ xs. take (slice_index xs j) met) e ∙ ap (λ k. take (slice_index (length met ∷ []) k) met) zero_is ∙ take_all (length met) met (omega arith) in
      record {
        once = subst (IsDistinct nat_eq) (sym all) once;
        members = λ n. ap (λ xs. has xs n) all ∙ is n ∙ ap (λ k. within_distance s (has targets) k n) (sym zero_is);
      };
}

push_at : (ends : List ℕ) (m j : ℕ) → j < length ends → slice_index (ends ++ m ∷ []) j ≡ slice_index ends j
push_at ends m j l = get_or_append_left ends (m ∷ []) 0 j l

push_last : (ends : List ℕ) (m j : ℕ) → j ≡ length ends → slice_index (ends ++ m ∷ []) j ≡ m
push_last ends m j e = get_or_push ends m 0 j (sym e)

-- the nodes that are one edge further
pub searched_next : (s : Shape) (from : ℕ → Bool) (i place : ℕ) (met met2 ends ends2 : List ℕ) → IsShape s → IsSearched s from i place met ends
    → IsSpread s met (length met) met2 → IsDistinct nat_eq met2 → ends2 ≡ ends ++ length met2 ∷ [] → IsSearched s from (i + 1) (length met) met2 ends2
searched_next s from i place met met2 ends ends2 shape p spread once e =
    let longer = spread_longer s met met2 (length met) spread in
    let count = p.count in
    let step : (n : ℕ) → has met2 n ≡ within_distance s from (i + 1) n = λ n. (let one : suc i ≡ i + 1 = omega arith in spread_within s from i met met2 shape p.found spread n ∙ ap (λ k. within_distance s from k n) one) in
    record {
      once = once;
      found = step;
      read = spread_on s met met2 spread;
      past = longer;
      count = ap length e ∙ length-append ends (length met2 ∷ []) ∙ (let f : length ends + 1 ≡ i + 1 + 1 = omega (arith, count) in f);
      fits = λ j. elim (cases_lt j (length ends)) [
        | inl below ↦ (let is = ap (λ xs. slice_index xs j) e ∙ push_at ends (length met2) j below in let f = p.fits j in omega (arith, is, f, longer))
        | inr past ↦ elim (cases_lt j (length ends + 1)) [
          | inl here ↦ (let same : j ≡ length ends = omega (arith, past, here) in let is = ap (λ xs. slice_index xs j) e ∙ push_last ends (length met2) j same in omega (arith, is))
          | inr far ↦ (
              let len = ap length e ∙ length-append ends (length met2 ∷ []) in
              let none : slice_index ends2 j ≡ 0 = get_or_past ends2 j 0 (omega (arith, far, len)) in
              omega (arith, none))
        ]
      ];
      each = λ j l. elim (cases_lt j (length ends)) [
        | inl below ↦ (
            let is = ap (λ xs. slice_index xs j) e ∙ push_at ends (length met2) j below in
            let prefix : take (slice_index ends2 j) met2 ≡ take (slice_index ends j) met =
            ap (λ k. take k met2) is ∙ ap (take (slice_index ends j)) spread.prefix.1 ∙ take-append-le (slice_index ends j) met spread.prefix.0 (p.fits j)
            in
            subst (Lists (within_distance s from j)) (sym prefix) (p.each j (omega (arith, below, count))))
        | inr past ↦ (
            let same : j ≡ length ends = omega (arith, past, l, count) in
            let is = ap (λ xs. slice_index xs j) e ∙ push_last ends (length met2) j same in
            let all : take (slice_index ends2 j) met2 ≡ met2 = ap (λ k. take k met2) is ∙ take_all (length met2) met2 (omega arith) in
            let at_j : i + 1 ≡ j = omega (arith, same, count) in
            record {
              once = subst (IsDistinct nat_eq) (sym all) once;
              members = λ n. ap (λ xs. has xs n) all ∙ step n ∙ ap (λ k. within_distance s from k n) at_j;
            })
      ];
    }

-- all that was asked for
pub searched_all : (s : Shape) (from : ℕ → Bool) (i place k : ℕ) (met ends : List ℕ) → IsSearched s from i place met ends → i ≡ k
    → AreWithinDistance s from k (record { nodes = met; ends = ends })
searched_all s from i place k met ends p e = record {
  count = p.count ∙ ap (λ m. m + 1) e;
  each = λ j l. p.each j (omega (arith, l, e));
}
