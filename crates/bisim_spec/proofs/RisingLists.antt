-- Lists of rising numbers.
use Rattle.std.proofs.Common.{◌≡◌, ℕ, ◌⊎◌, ◌<◌, List, [], ◌∷◌, Option, Some, None, refl, sym, ◌∙◌, ap, subst, arith, inl, inr, true, filter_map, true≢false}
use Rattle.std.specs.Ordering.{nat_cmp}
use Rattle.std.specs.Cmp.{ranked}
use Rattle.std.specs.List.{cons_option, AllByRecursion}
use Rattle.std.specs.List.Sorted.{IsStrictlySortedBy, IsStrictlyIncreasing}
use Rattle.std.specs.declared.cmp.Ordering.TheVariants.{Less}
use Rattle.std.proofs.lemmas.Map.Keys.{sorted_from_strictly_increasing}
use Rattle.graph_spec.specs.Members.{has}
use Rattle.graph_spec.proofs.MemberLaws.{has_cases, has_head, has_tail}
use Rattle.bisim_spec.specs.NodeKeys.{IsSetOf, AreImages}

all_at : (P : ℕ → Type 0) (xs : List ℕ) (n : ℕ) → AllByRecursion P xs → has xs n ≡ true → P n
all_at P [] n a h = absurd (true≢false (sym h))
all_at P (x ∷ xs) n a h = elim (has_cases x xs n h) [ inl e ↦ subst P (sym e) a.0 | inr t ↦ all_at P xs n a.1 t ]

-- the first is below the others
pub below_rest : (x : ℕ) (xs : List ℕ) (n : ℕ) → AllByRecursion (λ y. nat_cmp x y ≡ Less) xs → has xs n ≡ true → x < n
below_rest x xs n a h = let less = all_at (λ y. nat_cmp x y ≡ Less) xs n a h in ranked x n Less (sym less)

sorted_unique : (xs ys : List ℕ) → IsStrictlySortedBy nat_cmp xs → IsStrictlySortedBy nat_cmp ys → ((b : ℕ) → has xs b ≡ true → has ys b ≡ true)
    → ((b : ℕ) → has ys b ≡ true → has xs b ≡ true) → xs ≡ ys
unfolding IsStrictlySortedBy
sorted_unique [] [] rx ry there back = refl
sorted_unique [] (y ∷ ys) rx ry there back = absurd (true≢false (sym (back y (has_head y ys))))
sorted_unique (x ∷ xs) [] rx ry there back = absurd (true≢false (sym (there x (has_head x xs))))
sorted_unique (x ∷ xs) (y ∷ ys) rx ry there back =
    let same : x ≡ y = heads (has_cases y ys x (there x (has_head x xs))) (has_cases x xs y (back y (has_head y ys))) in
    let tails : xs ≡ ys =
    sorted_unique xs ys rx.1 ry.1
    (λ b h. elim (has_cases y ys b (there b (has_tail x xs b h))) [ inl e ↦ absurd (let l = below_rest x xs b rx.0 h in omega arith) | inr t ↦ t ])
    (λ b h. elim (has_cases x xs b (back b (has_tail y ys b h))) [ inl e ↦ absurd (let l = below_rest y ys b ry.0 h in omega arith) | inr t ↦ t ])
    in cc
  where
    heads : (x ≡ y) ⊎ (has ys x ≡ true) → (y ≡ x) ⊎ (has xs y ≡ true) → x ≡ y
    heads (inl e) _ = e
    heads (inr m) (inl e) = sym e
    heads (inr m) (inr k) = absurd (let a = below_rest y ys x ry.0 m in let b = below_rest x xs y rx.0 k in omega arith)

-- two rising lists with the same members are one
pub rising_unique : (xs ys : List ℕ) → IsStrictlyIncreasing xs → IsStrictlyIncreasing ys → ((b : ℕ) → has xs b ≡ true → has ys b ≡ true)
    → ((b : ℕ) → has ys b ≡ true → has xs b ≡ true) → xs ≡ ys
rising_unique xs ys rx ry = sorted_unique xs ys (sorted_from_strictly_increasing xs rx) (sorted_from_strictly_increasing ys ry)

-- a number among the images is that of a member
pub mapped : (f : ℕ → Option ℕ) (ps : List ℕ) (b : ℕ) → has (filter_map f ps) b ≡ true → (p : ℕ) × (has ps p ≡ true) × (f p ≡ Some b)
mapped f [] b h = absurd (true≢false (sym h))
mapped f (p ∷ ps) b h = by (f p) refl h (mapped f ps b)
  where
    by : (o : Option ℕ) → f p ≡ o → has (cons_option o (filter_map f ps)) b ≡ true
        → (has (filter_map f ps) b ≡ true → (q : ℕ) × (has ps q ≡ true) × (f q ≡ Some b)) → (q : ℕ) × (has (p ∷ ps) q ≡ true) × (f q ≡ Some b)
    by None e m rec = let r = rec m in (r.0, has_tail p ps r.0 r.1, r.2)
    by (Some c) e m rec = elim (has_cases c (filter_map f ps) b m) [
      | inl same ↦ (p, has_head p ps, e ∙ ap Some (sym same))
      | inr t ↦ let r = rec t in (r.0, has_tail p ps r.0 r.1, r.2)
    ]

-- the image of a member is among the images
pub maps : (f : ℕ → Option ℕ) (ps : List ℕ) (p b : ℕ) → has ps p ≡ true → f p ≡ Some b → has (filter_map f ps) b ≡ true
maps f [] p b h e = absurd (true≢false (sym h))
maps f (q ∷ ps) p b h e = by (f q) refl (λ t. maps f ps p b t e)
  where
    by : (o : Option ℕ) → f q ≡ o → (has ps p ≡ true → has (filter_map f ps) b ≡ true) → has (cons_option o (filter_map f ps)) b ≡ true
    by None z rec = elim (has_cases q ps p h) [ inl same ↦ absurd (let w = ap f same in cc) | inr t ↦ rec t ]
    by (Some c) z rec = elim (has_cases q ps p h) [
      | inl same ↦ (let w = ap f same in let is : c ≡ b = cc in subst (λ n. has (c ∷ filter_map f ps) n ≡ true) is (has_head c (filter_map f ps)))
      | inr t ↦ has_tail c (filter_map f ps) b (rec t)
    ]

-- the images of a list, made into a set
pub images_set : (f : ℕ → Option ℕ) (nodes set : List ℕ) → IsSetOf (filter_map f nodes) set → AreImages f nodes set
images_set f nodes set s = record {
  rising = s.rising;
  each = λ b h. mapped f nodes b (sym (s.same b) ∙ h);
  every = λ p b h e. s.same b ∙ maps f nodes p b h e;
}
