-- The nodes of a file as they are read.
use Rattle.std.proofs.Common.{◌≡◌, ℕ, zero, suc, ◌+◌, ◌<◌, ◌≤◌, ◌⊎◌, List, [], ◌∷◌, ◌++◌, length, Option, Some, None, true, false, true≢false, refl, sym, ◌∙◌, ap, arith, inl, inr, length-append}
use Rattle.std.specs.Prelude.{slice_get, option_and_then, if◌then◌else◌, is_some}
use Rattle.std.proofs.lemmas.Bool.{cases_Bool}
use Rattle.graph_spec.specs.Members.{at}
use Rattle.graph_spec.specs.Graphs.{is_seen}
use Rattle.graph_spec.specs.Changes.{with_label}
use Rattle.index_file.specs.SavedFiles.{seen_after, seen_of}
use Rattle.index_file.specs.Readings.{is_live_in, live_in}
use Rattle.index_file.specs.ReadLabels.{IsInterned}
use Rattle.index_file.specs.ReadNodes.{texts_at, AreReadNodes}

-- one more label is seen
seen_live : (seen : List (List ℕ)) (allocated : List (Option (List ℕ))) (t : List ℕ) → seen_after seen (allocated ++ Some t ∷ []) ≡ with_label (seen_after seen allocated) t
seen_live seen [] t = refl
seen_live seen (None ∷ allocated) t = seen_live seen allocated t
seen_live seen (Some u ∷ allocated) t = seen_live (with_label seen u) allocated t

seen_gone : (seen : List (List ℕ)) (allocated : List (Option (List ℕ))) → seen_after seen (allocated ++ None ∷ []) ≡ seen_after seen allocated
seen_gone seen [] = refl
seen_gone seen (None ∷ allocated) = seen_gone seen allocated
seen_gone seen (Some u ∷ allocated) = seen_gone (with_label seen u) allocated

live_more : (allocated : List (Option (List ℕ))) (t : List ℕ) → live_in (allocated ++ Some t ∷ []) ≡ suc (live_in allocated)
live_more [] t = refl
live_more (None ∷ allocated) t = live_more allocated t
live_more (Some u ∷ allocated) t = ap suc (live_more allocated t)

live_same : (allocated : List (Option (List ℕ))) → live_in (allocated ++ None ∷ []) ≡ live_in allocated
live_same [] = refl
live_same (None ∷ allocated) = live_same allocated
live_same (Some u ∷ allocated) = ap suc (live_same allocated)

-- a text that has a number keeps it
kept_text : (texts : List (List ℕ)) (t : List ℕ) (l : ℕ) → l < length texts → slice_get (with_label texts t) l ≡ slice_get texts l
kept_text texts t l h = elim (cases_Bool (is_seen texts t)) [
  | inl on ↦ ap (λ b. slice_get (if b then texts else (texts ++ t ∷ [])) l) on
  | inr off ↦ ap (λ b. slice_get (if b then texts else (texts ++ t ∷ [])) l) off ∙ front texts l h
]
  where
    front : (xs : List (List ℕ)) (k : ℕ) → k < length xs → slice_get (xs ++ t ∷ []) k ≡ slice_get xs k
    front [] k h = absurd (omega (arith, h))
    front (x ∷ xs) zero h = refl
    front (x ∷ xs) (suc k) h = front xs k (omega (arith, h))

-- and so the texts of the numbers stay
kept_texts : (texts new : List (List ℕ)) (t : List ℕ) (numbers : List (Option ℕ)) → new ≡ with_label texts t → ((n l : ℕ) → at numbers n ≡ Some l → l < length texts)
    → texts_at new numbers ≡ texts_at texts numbers
kept_texts texts new t [] e below = refl
kept_texts texts new t (None ∷ numbers) e below = ap (λ xs. None ∷ xs) (kept_texts texts new t numbers e (λ n l h. below (suc n) l h))
kept_texts texts new t (Some l ∷ numbers) e below =
    ap (λ x. x ∷ texts_at new numbers) (ap (λ s. slice_get s l) e ∙ kept_text texts t l (below 0 l refl))
    ∙ ap (λ xs. slice_get texts l ∷ xs) (kept_texts texts new t numbers e (λ n k h. below (suc n) k h))

texts_more : (texts : List (List ℕ)) (numbers : List (Option ℕ)) (o : Option ℕ) → texts_at texts (numbers ++ o ∷ []) ≡ texts_at texts numbers ++ option_and_then (slice_get texts) o ∷ []
texts_more texts [] o = refl
texts_more texts (x ∷ numbers) o = ap (λ xs. option_and_then (slice_get texts) x ∷ xs) (texts_more texts numbers o)

at_more : (numbers : List (Option ℕ)) (o : Option ℕ) (n l : ℕ) → at (numbers ++ o ∷ []) n ≡ Some l → (at numbers n ≡ Some l) ⊎ (o ≡ Some l)
at_more [] o zero l e = inr e
at_more [] o (suc n) l e = absurd (cc)
at_more (x ∷ numbers) o zero l e = inl e
at_more (x ∷ numbers) o (suc n) l e = at_more numbers o n l e

-- a node that is gone
pub gone_text : (texts : List (List ℕ)) (numbers new : List (Option ℕ)) → new ≡ numbers ++ None ∷ [] → texts_at texts new ≡ texts_at texts numbers ++ None ∷ []
gone_text texts numbers new e = ap (texts_at texts) e ∙ texts_more texts numbers None

pub gone_pushed : (texts : List (List ℕ)) (numbers new : List (Option ℕ)) (live : ℕ) → AreReadNodes texts numbers live → new ≡ numbers ++ None ∷ [] → AreReadNodes texts new live
gone_pushed texts numbers new live a e = record {
  seen = a.seen ∙ sym (ap seen_of (gone_text texts numbers new e) ∙ seen_gone [] (texts_at texts numbers));
  below = λ n l h. elim (at_more numbers None n l (ap (λ xs. at xs n) (sym e) ∙ h)) [ inl there ↦ a.below n l there | inr none ↦ absurd (cc) ];
  live_is = a.live_is ∙ sym (ap live_in (gone_text texts numbers new e) ∙ live_same (texts_at texts numbers));
  few = (let f = a.few in let n = ap length e in let m = length-append numbers (None ∷ []) in omega (arith, f, n, m));
}

-- a node with a label
pub live_text : (texts more : List (List ℕ)) (label : List ℕ) (most l : ℕ) (numbers new : List (Option ℕ)) (live : ℕ) → AreReadNodes texts numbers live
    → IsInterned label most texts more l → new ≡ numbers ++ Some l ∷ [] → texts_at more new ≡ texts_at texts numbers ++ Some label ∷ []
live_text texts more label most l numbers new live a i e =
    ap (texts_at more) e ∙ texts_more more numbers (Some l)
    ∙ ap (λ xs. xs ++ slice_get more l ∷ []) (kept_texts texts more label numbers i.kept a.below)
    ∙ ap (λ x. texts_at texts numbers ++ x ∷ []) i.placed

grown : (texts more : List (List ℕ)) (label : List ℕ) → more ≡ with_label texts label → length texts ≤ length more
grown texts more label e = elim (cases_Bool (is_seen texts label)) [
  | inl on ↦ (let z = ap length (e ∙ ap (λ b. if b then texts else (texts ++ label ∷ [])) on) in omega (arith, z))
  | inr off ↦ (let z = ap length (e ∙ ap (λ b. if b then texts else (texts ++ label ∷ [])) off) in let y = length-append texts (label ∷ []) in omega (arith, z, y))
]

within : (xs : List (List ℕ)) (l : ℕ) (t : List ℕ) → slice_get xs l ≡ Some t → l < length xs
within [] l t e = absurd (cc)
within (x ∷ xs) zero t e = omega arith
within (x ∷ xs) (suc l) t e = (let h = within xs l t e in omega (arith, h))

pub live_pushed : (texts more : List (List ℕ)) (label : List ℕ) (most l : ℕ) (numbers new : List (Option ℕ)) (live next : ℕ) → AreReadNodes texts numbers live
    → IsInterned label most texts more l → new ≡ numbers ++ Some l ∷ [] → next ≡ live + 1 → AreReadNodes more new next
live_pushed texts more label most l numbers new live next a i e n =
    let text = live_text texts more label most l numbers new live a i e in
    record {
      seen = i.kept ∙ ap (λ s. with_label s label) a.seen ∙ sym (ap seen_of text ∙ seen_live [] (texts_at texts numbers) label);
      below = λ k j h. elim (at_more numbers (Some l) k j (ap (λ xs. at xs k) (sym e) ∙ h)) [
        | inl there ↦ (let b = a.below k j there in let g = grown texts more label i.kept in omega (arith, b, g))
        | inr last ↦ (let w = within more l label i.placed in let same : l ≡ j = (let z : Some l ≡ Some j = last in cc) in omega (arith, w, same))
      ];
      live_is = (let b = a.live_is in let m = live_more (texts_at texts numbers) label in let t = ap live_in text in omega (arith, n, b, m, t));
      few = (let f = a.few in let p = ap length e in let q = length-append numbers (Some l ∷ []) in omega (arith, f, n, p, q));
    }

-- whether a number is live can be told by the numbers of labels
pub live_told : (texts : List (List ℕ)) (numbers : List (Option ℕ)) (n : ℕ) → ((m l : ℕ) → at numbers m ≡ Some l → l < length texts)
    → is_live_in (texts_at texts numbers) n ≡ is_some (at numbers n)
live_told texts [] n below = refl
live_told texts (None ∷ numbers) zero below = refl
live_told texts (Some l ∷ numbers) zero below = some_text texts l (below 0 l refl)
  where
    some_text : (xs : List (List ℕ)) (k : ℕ) → k < length xs → is_some (slice_get xs k) ≡ true
    some_text [] k h = absurd (omega (arith, h))
    some_text (x ∷ xs) zero h = refl
    some_text (x ∷ xs) (suc k) h = some_text xs k (omega (arith, h))
live_told texts (o ∷ numbers) (suc n) below = live_told texts numbers n (λ m l h. below (suc m) l h)

-- live numbers are allocated
pub live_below : (allocated : List (Option (List ℕ))) (n : ℕ) → is_live_in allocated n ≡ true → n < length allocated
live_below [] n h = absurd (true≢false (sym h))
live_below (o ∷ allocated) zero h = omega arith
live_below (o ∷ allocated) (suc n) h = (let l = live_below allocated n h in omega (arith, l))

pub not_live : (allocated : List (Option (List ℕ))) (n : ℕ) → length allocated ≤ n → is_live_in allocated n ≡ false
not_live [] n h = refl
not_live (o ∷ allocated) zero h = absurd (omega (arith, h))
not_live (o ∷ allocated) (suc n) h = not_live allocated n (omega (arith, h))

pub live_few : (allocated : List (Option (List ℕ))) → live_in allocated ≤ length allocated
live_few [] = omega arith
live_few (None ∷ allocated) = (let l = live_few allocated in omega (arith, l))
live_few (Some t ∷ allocated) = (let l = live_few allocated in omega (arith, l))
