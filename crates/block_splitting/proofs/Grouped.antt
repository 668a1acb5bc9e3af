-- Nodes that are grouped one after another.
use Rattle.std.proofs.Common.{◌≡◌, ℕ, ◌<◌, ◌⊎◌, List, [], length, Some, refl, sym, ◌∙◌, ap, subst, inl, inr, false, Bool, slice_get, slice_set, slice_index}
use Rattle.std.specs.Prelude.{◌||◌, nat_eq}
use Rattle.std.proofs.lemmas.Bool.{or_cases, or_left, or_right, both_ways}
use Rattle.std.proofs.lemmas.Bool.Decides.{Decides-eqb, eqb_tells}
use Rattle.std.proofs.lemmas.List.{get_or-set_same, get_or-set_other}
use Rattle.key_table.specs.NumberedKeys.{AreDistinct, Interns}
use Rattle.bisim_levels.proofs.NumberedNodes.{distinct_none, interned_at, interned_stays}
use Rattle.block_splitting.specs.Groups.{AreGrouped}
use Rattle.block_splitting.proofs.Lists.{get_push_cases}

pub grouped_none : (K : ℕ → List ℕ → Type 0) (seen : ℕ → Bool) (keys : List (List ℕ)) (group : List ℕ) → keys ≡ []
    → ((n : ℕ) → seen n ≡ false) → AreGrouped K seen keys group
grouped_none K seen keys group none unseen = record {
  distinct = subst AreDistinct (sym none) distinct_none;
  each = λ n h. absurd (both_ways (seen n) (unseen n) h);
  inhabited = λ k key e. absurd (let f = ap (λ ks. slice_get ks k) none in cc);
}

pub grouped_more : (K : ℕ → List ℕ → Type 0) (seen next : ℕ → Bool) (keys keys2 : List (List ℕ)) (group : List ℕ) (n k : ℕ) (key : List ℕ)
    → AreGrouped K seen keys group → ((m : ℕ) → next m ≡ (seen m || nat_eq m n)) → n < length group → Interns keys keys2 key k → AreDistinct keys2
    → K n key → AreGrouped K next keys2 (slice_set group n k)
grouped_more K seen next keys keys2 group n k key w seen_is within interned distinct is = record {
  distinct = distinct;
  each = λ m h. elim (eqb_tells m n) [
    | inl (t, same) ↦ (
      key,
      ap (slice_get keys2) (ap (λ x. slice_index (slice_set group n k) x) same ∙ get_or-set_same group n k 0 within) ∙ interned_at keys keys2 key k interned,
      subst (λ x. K x key) (sym same) is,
    )
    | inr (f, other) ↦ (
        let before = w.each m (elim (or_cases (seen m) (nat_eq m n) (sym (seen_is m) ∙ h)) [ inl s ↦ s | inr t ↦ absurd (both_ways (nat_eq m n) f t) ]) in (
          before.0,
          ap (slice_get keys2) (get_or-set_other group n m k 0 other) ∙ interned_stays keys keys2 key k interned (slice_index group m) before.0 before.1,
          before.2,
        ))
  ];
  inhabited = λ j x e. elim (added j x e) [
    | inl old ↦ (let r = w.inhabited j x old in (r.0, seen_is r.0 ∙ or_left (seen r.0) (nat_eq r.0 n) r.1, r.2))
    | inr new ↦ (n, seen_is n ∙ or_right (seen n) (nat_eq n n) ((Decides-eqb n n).1 refl), subst (K n) (sym new) is)
  ];
}
  where
    added : (j : ℕ) (x : List ℕ) → slice_get keys2 j ≡ Some x → (slice_get keys j ≡ Some x) ⊎ (x ≡ key)
    added j x e = elim interned [
      | inl (there, same) ↦ inl (ap (λ ks. slice_get ks j) (sym same) ∙ e)
      | inr (absent, at, grown) ↦ get_push_cases keys key x j (ap (λ ks. slice_get ks j) (sym grown) ∙ e)
    ]
