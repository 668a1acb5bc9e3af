-- One more node is numbered by its key.
use Rattle.std.proofs.Common.{◌≡◌, ℕ, ◌+◌, List, [], ◌∷◌, ◌++◌, length, Option, refl, sym, ◌∙◌, ap, subst, arith, inl, inr, Bool}
use Rattle.std.specs.Prelude.{slice_index}
use Rattle.std.proofs.lemmas.Bool.{cases_lt}
use Rattle.std.proofs.lemmas.List.{get_or_push, get_or_append_left, length-append}
use Rattle.key_table.specs.NumberedKeys.{Interns}
use Rattle.graph_spec.specs.Members.{at}
use Rattle.bisim_spec.specs.NodeKeys.{IsKey}
use Rattle.bisim_levels.proofs.NumberedNodes.{interned_at, interned_stays}
use Rattle.one_split.specs.Numbered.{HasNumber, HaveNumbers}

pub numbered_none : (p : List (Option ℕ)) (neighbour_of : ℕ → ℕ → Bool) (keys : List (List ℕ)) (nodes numbers : List ℕ) → keys ≡ [] → numbers ≡ [] → HaveNumbers p neighbour_of keys nodes numbers
numbered_none p neighbour_of keys nodes numbers nk nn = record {
  each = λ i h. absurd (let e = ap length nn in omega (arith, h, e));
  some = λ k h. absurd (let e = ap length nk in omega (arith, h, e));
}

pub numbered_more : (p : List (Option ℕ)) (neighbour_of : ℕ → ℕ → Bool) (keys keys2 : List (List ℕ)) (nodes numbers : List ℕ) (k : ℕ) (key : List ℕ)
    → HaveNumbers p neighbour_of keys nodes numbers → IsKey (at p) p neighbour_of (slice_index nodes (length numbers)) key → Interns keys keys2 key k
    → HaveNumbers p neighbour_of keys2 nodes (numbers ++ k ∷ [])
numbered_more p neighbour_of keys keys2 nodes numbers k key w is interned =
    let long : length (numbers ++ k ∷ []) ≡ length numbers + 1 = length-append numbers (k ∷ []) in
    record {
      each = λ i h. elim (cases_lt i (length numbers)) [
        | inl before ↦ (
            let m = w.each i before in
            let same : slice_index (numbers ++ k ∷ []) i ≡ slice_index numbers i = get_or_append_left numbers (k ∷ []) 0 i before in
            subst (HasNumber p neighbour_of keys2 (slice_index nodes i)) (sym same) (record {
              key = m.key;
              found = interned_stays keys keys2 key k interned (slice_index numbers i) m.key m.found;
              is = m.is;
            }))
        | inr past ↦ (
            let here : length numbers ≡ i = omega (arith, h, past, long) in
            let same : slice_index (numbers ++ k ∷ []) i ≡ k = get_or_push numbers k 0 i here in
            subst (HasNumber p neighbour_of keys2 (slice_index nodes i)) (sym same) (record {
              key = key;
              found = interned_at keys keys2 key k interned;
              is = subst (λ j. IsKey (at p) p neighbour_of (slice_index nodes j) key) here is;
            }))
      ];
      some = λ j h. elim (cases_lt j (length keys)) [
        | inl before ↦ (
            let i = w.some j before in
            let l = i.1 in
            (i.0, omega (arith, l, long), get_or_append_left numbers (k ∷ []) 0 i.0 l ∙ i.2))
        | inr past ↦ elim interned [
          | inl (there, same) ↦ absurd (let e = ap length same in omega (arith, h, past, e))
          | inr (absent, found, added) ↦ (
              let e = ap length added in
              let l = length-append keys (key ∷ []) in
              let is_k : k ≡ j = omega (arith, h, past, e, l, found) in
              (length numbers, omega (arith, long), get_or_push numbers k 0 (length numbers) refl ∙ is_k))
        ]
      ];
    }
