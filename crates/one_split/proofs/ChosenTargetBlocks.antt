-- The next group has its target block: what holds of all that have one.
use Rattle.std.proofs.Common.{◌≡◌, ℕ, ◌+◌, ◌<◌, List, [], ◌∷◌, ◌++◌, length, Option, Some, None, IsSome, is_some, refl, sym, ◌∙◌, ap, subst, arith, inl, inr, false, true≢false, option_to_list}
use Rattle.std.specs.Prelude.{slice_get, nat_eq, ◌||◌}
use Rattle.std.specs.List.{IsDistinct}
use Rattle.std.proofs.lemmas.Bool.{or_cases, or_left, or_right, false_from_ne_true}
use Rattle.std.proofs.lemmas.Bool.Decides.{Decides-eqb}
use Rattle.std.proofs.lemmas.List.{length-append}
use Rattle.graph_spec.specs.Members.{has, at}
use Rattle.one_split.proofs.OneMore.{and_one}
use Rattle.one_split.specs.NodeTargetBlocks.{BeginsAt, AreGroupTargetBlocks, StaysIf, GoesIf, TargetBlocksExist, AreBlocks, AreAdded}
use Rattle.graph_spec.proofs.MemberLaws.{has_push}
use Rattle.one_split.proofs.Chosen.{AreNoted, target_block_cases, target_block_last, target_block_stays, going_none, going_stays, going_goes, noted_stays, noted_goes}

pub record IsChosen (p : List (Option ℕ)) (counts : List (ℕ × ℕ)) (keys : List (List ℕ)) (labels : ℕ → Option ℕ) (target_blocks : List (Option ℕ)) (stays first new_blocks : List ℕ) : Type 0 where
  pub going : AreGroupTargetBlocks p counts keys target_blocks
  pub noted : AreNoted keys target_blocks stays
  pub blocks : TargetBlocksExist target_blocks labels
  pub distinct : AreBlocks labels new_blocks
  pub from : AreAdded target_blocks first new_blocks

append_nil : (xs : List ℕ) → xs ++ [] ≡ xs
append_nil [] = refl
append_nil (x ∷ xs) = ap (λ (ys : List ℕ). x ∷ ys) (append_nil xs)

none_at : (target_blocks : List (Option ℕ)) (k b : ℕ) → target_blocks ≡ [] → at target_blocks k ≡ Some b → ⊥
none_at target_blocks k b e h = (let f : at target_blocks k ≡ None = ap (λ gs. at gs k) e in let clash : Some b ≡ None = sym h ∙ f in cc)

pub chosen_none : (p : List (Option ℕ)) (counts : List (ℕ × ℕ)) (keys : List (List ℕ)) (labels : ℕ → Option ℕ) (target_blocks : List (Option ℕ)) (stays new_blocks : List ℕ) → target_blocks ≡ [] → stays ≡ []
    → AreBlocks labels new_blocks → IsChosen p counts keys labels target_blocks stays new_blocks new_blocks
chosen_none p counts keys labels target_blocks stays new_blocks e f blocks = record {
  going = going_none p counts keys target_blocks e;
  noted = record {
    into = λ j own l. absurd (let z = ap length e in omega (arith, l, z));
    from = λ own h. absurd (true≢false (sym h ∙ ap (λ xs. has xs own) f));
  };
  blocks = record { some = λ k b h. absurd (none_at target_blocks k b e h) };
  distinct = blocks;
  from = record {
    from = λ b h. inl h;
    more = λ k b h. absurd (none_at target_blocks k b e h);
    least = omega arith;
    keeps = λ b h. h;
    holds = λ k b h. absurd (none_at target_blocks k b e h);
  };
}

choose_stays : (p : List (Option ℕ)) (counts : List (ℕ × ℕ)) (keys : List (List ℕ)) (labels labels2 : ℕ → Option ℕ) (target_blocks : List (Option ℕ)) (own : ℕ) (stays stays2 first new_blocks new_blocks2 : List ℕ)
    → StaysIf p counts own stays stays2 None → ((c : ℕ) → IsSome (labels c) → IsSome (labels2 c)) → new_blocks2 ≡ new_blocks
    → BeginsAt keys (length target_blocks) own → IsChosen p counts keys labels target_blocks stays first new_blocks → IsChosen p counts keys labels2 (target_blocks ++ None ∷ []) stays2 first new_blocks2
choose_stays p counts keys labels labels2 target_blocks own stays stays2 first new_blocks new_blocks2 s keep same ends c = record {
  going = going_stays p counts keys target_blocks own stays stays2 c.going c.noted ends s;
  noted = noted_stays keys target_blocks own stays stays2 c.noted ends s.1;
  blocks = record { some = λ k b h. keep b (c.blocks.some k b (before k b h)) };
  distinct = record {
    once = subst (IsDistinct nat_eq) (sym same) c.distinct.once;
    some = λ b h. keep b (c.distinct.some b (sym (ap (λ xs. has xs b) same) ∙ h));
  };
  from = record {
    from = λ b h. elim (c.from.from b (sym (ap (λ xs. has xs b) same) ∙ h)) [
      | inl there ↦ inl there
      | inr (k, l, goes) ↦ inr (k, omega (arith, l, long), still k b goes)
    ];
    more = λ k b h. (let m = c.from.more k b (before k b h) in omega (arith, m, alike));
    least = (let m = c.from.least in omega (arith, m, alike));
    keeps = λ b h. ap (λ xs. has xs b) same ∙ c.from.keeps b h;
    holds = λ k b h. ap (λ xs. has xs b) same ∙ c.from.holds k b (before k b h);
  };
}
  where
    long : length (target_blocks ++ None ∷ []) ≡ length target_blocks + 1
    long = length-append target_blocks (None ∷ [])

    alike : length new_blocks2 ≡ length new_blocks
    alike = ap length same

    before : (k b : ℕ) → at (target_blocks ++ None ∷ []) k ≡ Some b → at target_blocks k ≡ Some b
    before k b h = elim (target_block_cases target_blocks None k b h) [ inl e ↦ e | inr (here, goes) ↦ absurd (cc) ]

    still : (k b : ℕ) → at target_blocks k ≡ Some b → at (target_blocks ++ None ∷ []) k ≡ Some b
    still k b h = target_block_stays target_blocks None k b h

choose_goes : (p : List (Option ℕ)) (counts : List (ℕ × ℕ)) (keys : List (List ℕ)) (labels labels2 : ℕ → Option ℕ) (target_blocks : List (Option ℕ)) (own b : ℕ) (stays stays2 first new_blocks new_blocks2 : List ℕ)
    → GoesIf p labels labels2 counts own stays stays2 (Some b) → ((c : ℕ) → IsSome (labels c) → IsSome (labels2 c)) → new_blocks2 ≡ new_blocks ++ b ∷ []
    → BeginsAt keys (length target_blocks) own → IsChosen p counts keys labels target_blocks stays first new_blocks → IsChosen p counts keys labels2 (target_blocks ++ Some b ∷ []) stays2 first new_blocks2
choose_goes p counts keys labels labels2 target_blocks own b stays stays2 first new_blocks new_blocks2 g keep added ends c = record {
  going = going_goes p counts keys target_blocks labels labels2 own b stays stays2 c.going c.noted c.blocks ends g;
  noted = noted_goes keys target_blocks b stays stays2 c.noted g.0;
  blocks = record {
    some = λ k d h. elim (target_block_cases target_blocks (Some b) k d h) [
      | inl e ↦ keep d (c.blocks.some k d e)
      | inr (here, goes) ↦ (let same : d ≡ b = cc in subst (λ x. IsSome (labels2 x)) (sym same) g.3)
    ];
  };
  distinct = record {
    once = subst (IsDistinct nat_eq) (sym added) (and_one new_blocks b c.distinct.once absent).once;
    some = λ d h. elim (or_cases (has new_blocks d) (nat_eq d b) (sym (is d) ∙ h)) [
      | inl there ↦ keep d (c.distinct.some d there)
      | inr here ↦ (let same = (Decides-eqb d b).0 here in subst (λ x. IsSome (labels2 x)) (sym same) g.3)
    ];
  };
  from = record {
    from = λ d h. elim (or_cases (has new_blocks d) (nat_eq d b) (sym (is d) ∙ h)) [
      | inl there ↦ elim (c.from.from d there) [
        | inl first_has ↦ inl first_has
        | inr (k, l, goes) ↦ inr (k, omega (arith, l, long), target_block_stays target_blocks (Some b) k d goes)
      ]
      | inr here ↦ (
          let same = (Decides-eqb d b).0 here in
          inr (length target_blocks, omega (arith, long), target_block_last target_blocks (Some b) (length target_blocks) refl ∙ ap (λ x. Some x) (sym same)))
    ];
    more = λ k d h. (let m = c.from.least in omega (arith, m, longer));
    least = (let m = c.from.least in omega (arith, m, longer));
    keeps = λ d h. is d ∙ or_left (has new_blocks d) (nat_eq d b) (c.from.keeps d h);
    holds = λ k d h. is d ∙ elim (target_block_cases target_blocks (Some b) k d h) [
      | inl there ↦ or_left (has new_blocks d) (nat_eq d b) (c.from.holds k d there)
      | inr (here, goes) ↦ or_right (has new_blocks d) (nat_eq d b) ((Decides-eqb d b).1 (let same : d ≡ b = cc in same))
    ];
  };
}
  where
    long : length (target_blocks ++ Some b ∷ []) ≡ length target_blocks + 1
    long = length-append target_blocks (Some b ∷ [])

    longer : length new_blocks2 ≡ length new_blocks + 1
    longer = ap length added ∙ length-append new_blocks (b ∷ [])

    is : (d : ℕ) → has new_blocks2 d ≡ (has new_blocks d || nat_eq d b)
    is d = ap (λ xs. has xs d) added ∙ has_push new_blocks b d

    absent : has new_blocks b ≡ false
    absent = false_from_ne_true (has new_blocks b) (λ t. true≢false (sym (c.distinct.some b t) ∙ ap is_some g.2))

pub choose_step : (p : List (Option ℕ)) (counts : List (ℕ × ℕ)) (keys : List (List ℕ)) (labels labels2 : ℕ → Option ℕ) (target_blocks : List (Option ℕ)) (own : ℕ)
    (stays stays2 first new_blocks new_blocks2 : List ℕ) (o : Option ℕ) → StaysIf p counts own stays stays2 o → GoesIf p labels labels2 counts own stays stays2 o
    → ((c : ℕ) → IsSome (labels c) → IsSome (labels2 c)) → new_blocks2 ≡ new_blocks ++ option_to_list o → BeginsAt keys (length target_blocks) own
    → IsChosen p counts keys labels target_blocks stays first new_blocks → IsChosen p counts keys labels2 (target_blocks ++ o ∷ []) stays2 first new_blocks2
choose_step p counts keys labels labels2 target_blocks own stays stays2 first new_blocks new_blocks2 None s g keep added ends c =
    choose_stays p counts keys labels labels2 target_blocks own stays stays2 first new_blocks new_blocks2 s keep (added ∙ append_nil new_blocks) ends c
choose_step p counts keys labels labels2 target_blocks own stays stays2 first new_blocks new_blocks2 (Some b) s g keep added ends c =
    choose_goes p counts keys labels labels2 target_blocks own b stays stays2 first new_blocks new_blocks2 g keep added ends c

-- a key that begins with its block has a number, and its first number is the block
pub begins_long : (keys : List (List ℕ)) (k own : ℕ) (key : List ℕ) → BeginsAt keys k own → slice_get keys k ≡ Some key → 0 < length key
begins_long keys k own key e found =
    let same : key ≡ own ∷ e.around = (let f = e.found in cc) in
    let l = ap length same in
    omega (arith, l)

pub begins_own : (keys : List (List ℕ)) (k own first : ℕ) (key : List ℕ) → BeginsAt keys k own → slice_get keys k ≡ Some key
    → ((around : List ℕ) (x : ℕ) → key ≡ x ∷ around → first ≡ x) → first ≡ own
begins_own keys k own first key e found is = is e.around own (let f = e.found in let same : key ≡ own ∷ e.around = cc in same)
