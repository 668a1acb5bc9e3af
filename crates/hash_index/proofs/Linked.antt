-- A number that is put in front of its chain.
use Rattle.std.proofs.Common.{◌≡◌, ◌≢◌, ℕ, ◌+◌, ◌-◌, ◌<◌, ◌⊎◌, List, [], ◌∷◌, ◌++◌, length, refl, sym, ◌∙◌, ap, arith, inl, inr, slice_set}
use Rattle.std.proofs.lemmas.List.{length-set, get_or-set_same, get_or-set_other, get_or_append_left}
use Rattle.std.proofs.Math.Seq.{get_or-append_seam}
use Rattle.hash_index.specs.Items.{hash_at}
use Rattle.hash_index.specs.HashChains.{IsLinked, AreChains, bucket_of, head_at, link_at}

-- g is f with v written at one place
record Writes (f g : ℕ → ℕ) (place v : ℕ) : Type 0 where
  here : g place ≡ v
  there : (m : ℕ) → m ≢ place → g m ≡ f m

same_or_not : (m n : ℕ) → (m ≡ n) ⊎ (m ≢ n)
same_or_not m n = grind arith

linked_none : (B N H : ℕ → ℕ) → ((b : ℕ) → H b ≡ 0) → IsLinked 0 B N H
linked_none B N H e = record {
  head_covers = λ i h. absurd (omega (arith, h));
  head_below = λ b. let z = e b in omega (arith, z);
  head_is = λ b h. absurd (let z = e b in omega (arith, z, h));
  next_covers = λ i j h k m. absurd (omega (arith, h));
  next_below = λ i h. absurd (omega (arith, h));
  next_is = λ i h k. absurd (omega (arith, h));
}

-- the next number, whose link leads to the front of its chain, becomes the front
linked_step : (n : ℕ) (B B' N H H' : ℕ → ℕ) → IsLinked n B N H → ((i : ℕ) → B' i ≡ B i) → N n ≡ H (B n) → Writes H H' (B n) (n + 1) → IsLinked (n + 1) B' N H'
linked_step n B B' N H H' k b front wh = record {
  head_covers = λ i h. elim (same_or_not i n) [
    | inl e ↦ grind (arith, b i, wh.here, e)
    | inr d ↦ elim (same_or_not (B i) (B n)) [
      | inl e ↦ grind (arith, b i, wh.here, e, h)
      | inr f ↦ grind (arith, b i, wh.there (B i) f, k.head_covers i, d, h)
    ]
  ];
  head_below = λ c. elim (same_or_not c (B n)) [
    | inl e ↦ grind (arith, wh.here, e)
    | inr f ↦ grind (arith, wh.there c f, k.head_below c)
  ];
  head_is = λ c h. elim (same_or_not c (B n)) [
    | inl e ↦ (let one : H' c - 1 ≡ n = grind (arith, wh.here, e) in rw (b (H' c - 1), one) (sym e))
    | inr f ↦ (let w = wh.there c f in rw (b (H' c - 1), w) (k.head_is c (rw (← w) h)))
  ];
  next_covers = λ i j h l m.
      let m2 : B j ≡ B i = sym (b j) ∙ m ∙ b i in
      elim (same_or_not i n) [
        | inl e ↦ grind (arith, front, e, k.head_covers j, m2, l)
        | inr d ↦ k.next_covers i j (grind (arith, d, h)) l m2
      ];
  next_below = λ i h. elim (same_or_not i n) [
    | inl e ↦ grind (arith, front, e, k.head_below (B n))
    | inr d ↦ k.next_below i (grind (arith, d, h))
  ];
  next_is = λ i h p. elim (same_or_not i n) [
    | inl e ↦ (
        let w : N i ≡ H (B n) = rw e front in
        rw (b (N i - 1), b i, w, e) (k.head_is (B n) (rw (← w) p)))
    | inr d ↦ rw (b (N i - 1), b i) (k.next_is i (grind (arith, d, h)) p)
  ];
}

linked_same : (n : ℕ) (B B' N N' H : ℕ → ℕ) → IsLinked n B N H → ((i : ℕ) → i < n → B' i ≡ B i) → ((i : ℕ) → i < n → N' i ≡ N i) → IsLinked n B' N' H
linked_same n B B' N N' H k b w = record {
  head_covers = λ i h. rw (b i h) (k.head_covers i h);
  head_below = k.head_below;
  head_is = λ c h. let l : H c - 1 < n = (let u = k.head_below c in omega (arith, u, h)) in rw (b (H c - 1) l) (k.head_is c h);
  next_covers = λ i j h l m. rw (w i h) (k.next_covers i j h l (sym (b j (omega (arith, h, l))) ∙ m ∙ b i h));
  next_below = λ i h. rw (w i h) (k.next_below i h);
  next_is = λ i h p. rw (w i h) (
      let p2 : 0 < N i = rw (← w i h) p in
      let l : N i - 1 < n = (let u = k.next_below i h in omega (arith, u, h, p2)) in
      rw (b (N i - 1) l, b i h) (k.next_is i h p2));
}

pub none_linked : (hashes links heads : List ℕ) → ((b : ℕ) → head_at heads b ≡ 0) → AreChains 0 hashes links heads
none_linked hashes links heads e = linked_none (λ i. bucket_of heads (hash_at hashes i)) (link_at links) (head_at heads) e

front : (n : ℕ) (hashes links heads heads2 : List ℕ) (b : ℕ) → AreChains n hashes links heads → b ≡ bucket_of heads (hash_at hashes n) → b < length heads
    → link_at links n ≡ head_at heads b → heads2 ≡ slice_set heads b (n + 1) → AreChains (n + 1) hashes links heads2
front n hashes links heads heads2 b k is within leads grown =
    let l : length heads2 ≡ length heads = ap length grown ∙ length-set heads b (n + 1) in
    linked_step n (λ i. bucket_of heads (hash_at hashes i)) (λ i. bucket_of heads2 (hash_at hashes i)) (link_at links) (head_at heads) (head_at heads2) k
    (λ i. rw l refl)
    (leads ∙ ap (head_at heads) is)
    (record {
      here = rw (grown, ← is) (get_or-set_same heads b (n + 1) 0 within);
      there = λ m d. rw grown (get_or-set_other heads b m (n + 1) 0 (rw is d));
    })

-- a number that is there is linked
pub linked_set : (n : ℕ) (hashes hashes2 links links2 heads heads2 : List ℕ) (b : ℕ) → AreChains n hashes links heads → hashes2 ≡ hashes → n < length links
    → b ≡ bucket_of heads (hash_at hashes n) → b < length heads → links2 ≡ slice_set links n (head_at heads b) → heads2 ≡ slice_set heads b (n + 1)
    → AreChains (n + 1) hashes2 links2 heads2
linked_set n hashes hashes2 links links2 heads heads2 b k same h is within set grown =
    front n hashes2 links2 heads heads2 b
    (linked_same n (λ i. bucket_of heads (hash_at hashes i)) (λ i. bucket_of heads (hash_at hashes2 i)) (link_at links) (link_at links2) (head_at heads) k
    (λ i l. ap (λ hs. bucket_of heads (hash_at hs i)) same)
    (λ i l. ap (λ ls. link_at ls i) set ∙ get_or-set_other links n i (head_at heads b) 0 (omega (arith, l))))
    (is ∙ ap (λ hs. bucket_of heads (hash_at hs n)) (sym same)) within
    (ap (λ ls. link_at ls n) set ∙ get_or-set_same links n (head_at heads b) 0 h) grown

-- a new number is linked
pub linked_push : (n : ℕ) (hashes hashes2 links links2 heads heads2 : List ℕ) (hash b : ℕ) → AreChains n hashes links heads → n ≡ length hashes → n ≡ length links
    → hashes2 ≡ hashes ++ hash ∷ [] → links2 ≡ links ++ head_at heads b ∷ [] → b ≡ bucket_of heads hash → b < length heads → heads2 ≡ slice_set heads b (n + 1)
    → AreChains (n + 1) hashes2 links2 heads2
linked_push n hashes hashes2 links links2 heads heads2 hash b k p q more longer is within grown =
    let new : hash_at hashes2 n ≡ hash = ap (λ hs. hash_at hs n) more ∙ ap (hash_at (hashes ++ hash ∷ [])) p ∙ get_or-append_seam hashes hash [] 0 in
    front n hashes2 links2 heads heads2 b
    (linked_same n (λ i. bucket_of heads (hash_at hashes i)) (λ i. bucket_of heads (hash_at hashes2 i)) (link_at links) (link_at links2) (head_at heads) k
    (λ i l. ap (λ hs. bucket_of heads (hash_at hs i)) more ∙ ap (bucket_of heads) (get_or_append_left hashes (hash ∷ []) 0 i (rw (← p) l)))
    (λ i l. ap (λ ls. link_at ls i) longer ∙ get_or_append_left links (head_at heads b ∷ []) 0 i (rw (← q) l)))
    (is ∙ ap (bucket_of heads) (sym new)) within
    (ap (λ ls. link_at ls n) longer ∙ ap (link_at (links ++ head_at heads b ∷ [])) q ∙ get_or-append_seam links (head_at heads b) [] 0) grown
