-- A list that moves into the cells of an empty one.
use Rattle.std.proofs.Common.{◌≡◌, ℕ, zero, suc, ◌+◌, ◌<◌, ◌≤◌, List, [], ◌∷◌, ◌++◌, refl, sym, ap, ◌∙◌, subst, arith, length, take, drop, set, length-set, length-drop, get_or, inl, inr}
use Rattle.std.proofs.Math.Seq.{paste}
use Rattle.std.proofs.lemmas.List.{take_more, take_more_set}
use Rattle.std.proofs.lemmas.List.Edits.{paste_none, paste_more}
use Rattle.cell_lists.specs.declared.segment.Segment.{Segment}
use Rattle.cell_lists.specs.Segments.{items_in, LiesWithin, IsApart, IsCopied, Exchanges}
use Rattle.cell_lists.proofs.SegmentLemmas.{drop-set, set-apart, short-items, long-items, items-none}

one-number : (n x : ℕ) (ys : List ℕ) → n < 2 → 0 < length ys → take n (set ys 0 x) ≡ take n (x ∷ [])
one-number n x [] h l = absurd (omega arith)
one-number zero x (y ∷ ys) h l = refl
one-number (suc zero) x (y ∷ ys) h l = refl
one-number (suc (suc n)) x (y ∷ ys) h l = absurd (omega arith)

-- the number of a list that takes no cell
pub copied-short : (cells : List ℕ) (s r : Segment) → s.reserved < 2 → s.len ≤ s.reserved → LiesWithin (length cells) r → 2 ≤ r.reserved → IsCopied cells (set cells r.first s.first) s r
copied-short cells s r short fits w long = record {
  size = length-set cells r.first s.first;
  copied =
      ap (take s.len) (drop-set r.first 0 r.first cells s.first (omega arith))
      ∙ one-number s.len s.first (drop r.first cells) (omega arith) (omega (arith, w.ends long, length-drop r.first cells))
      ∙ sym (short-items cells s short);
  others = λ u within apart. set-apart cells r u r.first s.first within apart long (omega arith) (omega arith);
}

-- the first n of those numbers stand in the cells of r, and nothing else is written
record IsPasted (old new xs : List ℕ) (n : ℕ) (r : Segment) : Type 0 where
  pub size : length new ≡ length old
  pub copied : take n (drop r.first new) ≡ take n xs
  pub others : (u : Segment) → LiesWithin (length old) u → IsApart r u → items_in new u ≡ items_in old u

module _ (cells xs : List ℕ) (r : Segment) (w : LiesWithin (length cells) r) (long : 2 ≤ r.reserved) where
  one-more : (new : List ℕ) (n : ℕ) → IsPasted cells new xs n r → n < r.reserved → n < length xs → IsPasted cells (set new (r.first + n) (get_or xs n 0)) xs (n + 1) r
  one-more new n p h l =
      let v = get_or xs n 0 in
      record {
        size = length-set new (r.first + n) v ∙ p.size;
        copied =
            ap (take (n + 1)) (drop-set r.first n (r.first + n) new v refl)
            ∙ take_more_set (drop r.first new) n v (omega (arith, w.ends long, p.size, length-drop r.first new))
            ∙ ap (λ l. l ++ v ∷ []) p.copied ∙ sym (take_more xs n 0 l);
        others = λ u within apart.
            set-apart new r u (r.first + n) v (subst (λ m. LiesWithin m u) (sym p.size) within) apart long (omega arith) (omega arith) ∙ p.others u within apart;
      }

  pasted : (n : ℕ) → n ≤ r.reserved → n ≤ length xs → IsPasted cells (paste cells r.first xs n) xs n r
  pasted zero h l = subst (λ new. IsPasted cells new xs 0 r) (paste_none cells r.first xs) (record { size = refl; copied = refl; others = λ u within apart. refl })
  pasted (suc n) h l =
      let e : n + 1 ≡ suc n = omega arith in
      subst (λ m. IsPasted cells (paste cells r.first xs m) xs m r) e
      (subst (λ new. IsPasted cells new xs (n + 1) r) (paste_more cells r.first xs n 0 (omega (arith, w.ends long, (pasted n (omega arith) (omega arith)).size)) (omega arith))
      (one-more _ n (pasted n (omega arith) (omega arith)) (omega arith) (omega arith)))

-- the numbers of a list among the cells
pub copied-long : (cells new : List ℕ) (s r : Segment) (n : ℕ) → new ≡ paste cells r.first (drop s.first cells) n → n ≡ s.len → 2 ≤ s.reserved → LiesWithin (length cells) s
    → LiesWithin (length cells) r → 2 ≤ r.reserved → s.reserved ≤ r.reserved → IsCopied cells new s r
copied-long cells new s r n is len long_s w_s w_r long_r larger =
    let p = pasted cells (drop s.first cells) r w_r long_r s.len (omega (arith, w_s.fits)) (omega (arith, w_s.fits, w_s.ends long_s, length-drop s.first cells)) in
    subst (λ l. IsCopied cells l s r) (sym (is ∙ ap (paste cells r.first (drop s.first cells)) len))
    (record { size = p.size; copied = p.copied ∙ sym (long-items cells s long_s); others = p.others })

-- nothing is done
pub unexchanged : (cells : List ℕ) (s r : Segment) → LiesWithin (length cells) s → LiesWithin (length cells) r → IsApart s r → Exchanges cells cells s r s r
unexchanged cells s r w_s w_r apart = record {
  size = refl;
  list_within = w_s;
  vacant_within = w_r;
  between = apart;
  list_apart = λ u a b. a;
  vacant_apart = λ u a b. b;
  others = λ u within a b. refl;
  list_items = refl;
  vacant_items = refl;
  more = omega arith;
}

pub exchanged : (old new : List ℕ) (s r : Segment) → LiesWithin (length old) s → LiesWithin (length old) r → IsApart s r → IsCopied old new s r → r.len ≡ 0 → 2 ≤ r.reserved → s.reserved < r.reserved
    → Exchanges old new s r (record r { len = s.len }) (record s { len = 0 })
exchanged old new s r w_s w_r apart c none long larger = record {
  size = c.size;
  list_within = record { fits = omega (arith, w_s.fits); ends = λ l. omega (arith, w_r.ends l, c.size) };
  vacant_within = record { fits = omega arith; ends = λ l. omega (arith, w_s.ends l, c.size) };
  between = λ a b. elim (apart b a) [
    | inl h ↦ inr h
    | inr h ↦ inl h
  ];
  list_apart = λ u a b. b;
  vacant_apart = λ u a b. a;
  others = λ u within a b. c.others u within b;
  list_items = long-items new (record r { len = s.len }) long ∙ c.copied;
  vacant_items = items-none new (record s { len = 0 }) refl ∙ sym (items-none old r none);
  more = omega arith;
}
