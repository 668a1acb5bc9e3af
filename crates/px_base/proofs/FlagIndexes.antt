-- The places of the bytes that are 1.
use Rattle.std.proofs.Common.{All, ◌≡◌, take_all, ℕ, suc, zero, min, get_or-drop, length-drop, ◌+◌, ◌-◌, ◌<◌, ◌≤◌, List, [], ◌∷◌, length, get_or, take, drop, refl, subst, ap, sym, ◌∙◌, arith, Bool, true, false, ◌++◌}
use Rattle.std.specs.Prelude.{◌≢◌, nat_eq, nat_le, slice_get, Some, None, filter, ◌||◌, ◌&&◌, not, if◌then◌else◌}
use Rattle.std.specs.List.Sorted.{IsStrictlyIncreasing}
use Rattle.std.proofs.Math.ListN.{set, replicate}
use Rattle.std.proofs.lemmas.List.{append_assoc, length-map, map-set, drop-map, drop_more, drop_all}
use Rattle.std.proofs.lemmas.Grind.{common_steps}
use Rattle.std.proofs.lemmas.Bool.Decides.{nat_tests}
use Rattle.graph_spec.specs.Members.{has}
use Rattle.memchr.specs.Find.{IsFirstByte, is_byte, places, places_from as listed_from}
use Rattle.px_base.specs.BitSets.{flags_of, places_from, IsNext}

pub is_one : (b : ℕ) → b ≡ 1 → nat_eq b 1 ≡ true
is_one b e = grind (arith, nat_tests, e)

pub not_one : (b : ℕ) → b ≢ 1 → nat_eq b 1 ≡ false
not_one b n = grind (arith, nat_tests, n)

pub flag-at : (bytes : List ℕ) (k : ℕ) → get_or (flags_of bytes) k false ≡ nat_eq (get_or bytes k 0) 1
flag-at [] k = grind (arith, common_steps)
flag-at (b ∷ bs) zero = refl
flag-at (b ∷ bs) (suc k) = flag-at bs k

-- no place is below the first
pub places-above : (s : ℕ) (flags : List Bool) (m : ℕ) → m < s → has (places_from s flags) m ≡ false
places-above s [] m h = refl
places-above s (true ∷ bs) m h = grind (arith, nat_tests, places-above (s + 1) bs m (omega arith))
places-above s (false ∷ bs) m h = places-above (s + 1) bs m (omega arith)

pub places-has : (s : ℕ) (flags : List Bool) (k m : ℕ) → m ≡ s + k → has (places_from s flags) m ≡ get_or flags k false
places-has s [] k m e = grind (arith, common_steps)
places-has s (true ∷ bs) zero m e = grind (arith, nat_tests)
places-has s (false ∷ bs) zero m e = places-above (s + 1) bs m (omega arith)
places-has s (true ∷ bs) (suc k) m e = grind (arith, nat_tests, places-has (s + 1) bs k m (omega arith))
places-has s (false ∷ bs) (suc k) m e = places-has (s + 1) bs k m (omega arith)

pub members-has : (bytes : List ℕ) (m : ℕ) → has (places_from 0 (flags_of bytes)) m ≡ nat_eq (get_or bytes m 0) 1
members-has bytes m = places-has 0 (flags_of bytes) m m (omega arith) ∙ flag-at bytes m

-- the first place is no less than where the flags begin
pub places-first : (s : ℕ) (flags : List Bool) → 0 < length (places_from s flags) → s ≤ get_or (places_from s flags) 0 0
places-first s [] h = absurd (omega arith)
places-first s (true ∷ bs) h = omega arith
places-first s (false ∷ bs) h = omega (arith, places-first (s + 1) bs h)

rising-cons : (x : ℕ) (xs : List ℕ) → (0 < length xs → x < get_or xs 0 0) → IsStrictlyIncreasing xs → IsStrictlyIncreasing (x ∷ xs)
rising-cons x xs h r zero l = h (omega arith)
rising-cons x xs h r (suc k) l = let e : suc k + 1 ≡ suc (k + 1) = omega arith in rw e (r k (omega arith))

pub places-rising : (s : ℕ) (flags : List Bool) → IsStrictlyIncreasing (places_from s flags)
places-rising s [] = λ k h. absurd (omega arith)
places-rising s (true ∷ bs) = rising-cons s (places_from (s + 1) bs) (λ h. omega (arith, places-first (s + 1) bs h)) (places-rising (s + 1) bs)
places-rising s (false ∷ bs) = places-rising (s + 1) bs

pub places-length : (s : ℕ) (flags : List Bool) → length (places_from s flags) ≤ length flags
places-length s [] = omega arith
places-length s (true ∷ bs) = omega (arith, places-length (s + 1) bs)
places-length s (false ∷ bs) = omega (arith, places-length (s + 1) bs)

-- one more flag is set
pub places-set : (s : ℕ) (flags : List Bool) (k : ℕ) → k < length flags → get_or flags k false ≡ false
    → length (places_from s (set flags k true)) ≡ length (places_from s flags) + 1
places-set s [] k h e = absurd (omega arith)
places-set s (true ∷ bs) zero h e = cc
places-set s (false ∷ bs) zero h e = omega arith
places-set s (true ∷ bs) (suc k) h e = omega (arith, places-set (s + 1) bs k (omega arith) e)
places-set s (false ∷ bs) (suc k) h e = omega (arith, places-set (s + 1) bs k (omega arith) e)

-- and one that was set is cleared
pub places-cleared : (s : ℕ) (flags : List Bool) (k : ℕ) → k < length flags → get_or flags k false ≡ true
    → length (places_from s (set flags k false)) + 1 ≡ length (places_from s flags)
places-cleared s [] k h e = absurd (omega arith)
places-cleared s (true ∷ bs) zero h e = omega arith
places-cleared s (false ∷ bs) zero h e = cc
places-cleared s (true ∷ bs) (suc k) h e = omega (arith, places-cleared (s + 1) bs k (omega arith) e)
places-cleared s (false ∷ bs) (suc k) h e = omega (arith, places-cleared (s + 1) bs k (omega arith) e)

-- the same of the bytes
pub members-more : (bytes : List ℕ) (k : ℕ) → k < length bytes → nat_eq (get_or bytes k 0) 1 ≡ false
    → length (places_from 0 (flags_of (set bytes k 1))) ≡ length (places_from 0 (flags_of bytes)) + 1
members-more bytes k h e =
    ap (λ fs. length (places_from 0 fs)) (map-set (λ b. nat_eq b 1) bytes k 1)
    ∙ places-set 0 (flags_of bytes) k (rw length-map h) (flag-at bytes k ∙ e)

pub members-fewer : (bytes : List ℕ) (k : ℕ) → k < length bytes → nat_eq (get_or bytes k 0) 1 ≡ true
    → length (places_from 0 (flags_of (set bytes k 0))) + 1 ≡ length (places_from 0 (flags_of bytes))
members-fewer bytes k h e =
    ap (λ fs. length (places_from 0 fs) + 1) (map-set (λ b. nat_eq b 1) bytes k 0)
    ∙ places-cleared 0 (flags_of bytes) k (rw length-map h) (flag-at bytes k ∙ e)

pub members-length : (bytes : List ℕ) → length (places_from 0 (flags_of bytes)) ≤ length bytes
members-length bytes = omega (arith, places-length 0 (flags_of bytes), length-map bytes (λ b. nat_eq b 1))

pub places-none : (s k : ℕ) → places_from s (flags_of (replicate k 0)) ≡ []
places-none s zero = refl
places-none s (suc k) = places-none (s + 1) k

pub insert-has : (bytes : List ℕ) (n m : ℕ) → n < length bytes
    → has (places_from 0 (flags_of (set bytes n 1))) m ≡ (nat_eq m n || has (places_from 0 (flags_of bytes)) m)
insert-has bytes n m h =
    let a = members-has (set bytes n 1) m in
    let b = members-has bytes m in
    grind (arith, nat_tests, common_steps, a, b)

pub insert-kept : (bytes : List ℕ) (n m : ℕ) → nat_eq (get_or bytes n 0) 1 ≡ true
    → has (places_from 0 (flags_of bytes)) m ≡ (nat_eq m n || has (places_from 0 (flags_of bytes)) m)
insert-kept bytes n m h =
    let b = members-has bytes m in
    grind (arith, nat_tests, b)

pub remove-has : (bytes : List ℕ) (n m : ℕ) → n < length bytes
    → has (places_from 0 (flags_of (set bytes n 0))) m ≡ (not (nat_eq m n) && has (places_from 0 (flags_of bytes)) m)
remove-has bytes n m h =
    let a = members-has (set bytes n 0) m in
    let b = members-has bytes m in
    grind (arith, nat_tests, common_steps, a, b)

pub remove-kept : (bytes : List ℕ) (n m : ℕ) → nat_eq (get_or bytes n 0) 1 ≡ false
    → has (places_from 0 (flags_of bytes)) m ≡ (not (nat_eq m n) && has (places_from 0 (flags_of bytes)) m)
remove-kept bytes n m h =
    let b = members-has bytes m in
    grind (arith, nat_tests, b)

filter-all : (s n : ℕ) (flags : List Bool) → n ≤ s → filter (λ m. nat_le n m) (places_from s flags) ≡ places_from s flags
filter-all s n [] h = refl
filter-all s n (true ∷ bs) h = grind (arith, nat_tests, filter-all (s + 1) n bs (omega arith))
filter-all s n (false ∷ bs) h = filter-all (s + 1) n bs (omega arith)

pub filter-from : (s k n : ℕ) (flags : List Bool) → n ≡ s + k → filter (λ m. nat_le n m) (places_from s flags) ≡ places_from n (drop k flags)
filter-from s k n [] e = grind (arith, common_steps)
filter-from s zero n (b ∷ bs) e = let e : n ≡ s = omega arith in rw e (filter-all s s (b ∷ bs) (omega arith))
filter-from s (suc k) n (true ∷ bs) e = grind (arith, nat_tests, filter-from (s + 1) k n bs (omega arith))
filter-from s (suc k) n (false ∷ bs) e = filter-from (s + 1) k n bs (omega arith)

pub first-Some : (s : ℕ) (flags : List Bool) (i : ℕ) → i < length flags → get_or flags i false ≡ true
    → ((k : ℕ) → k < i → get_or flags k false ≡ false) → slice_get (places_from s flags) 0 ≡ Some (s + i)
first-Some s [] i h t f = absurd (omega arith)
first-Some s (true ∷ bs) zero h t f = ap Some (omega arith)
first-Some s (false ∷ bs) zero h t f = cc
first-Some s (true ∷ bs) (suc i) h t f = let e = f 0 (omega arith) in cc
first-Some s (false ∷ bs) (suc i) h t f =
    first-Some (s + 1) bs i (omega arith) t (λ k l. f (suc k) (omega arith)) ∙ ap Some (omega arith)

pub first-None : (s : ℕ) (flags : List Bool) → ((k : ℕ) → k < length flags → get_or flags k false ≡ false) → places_from s flags ≡ []
first-None s [] f = refl
first-None s (true ∷ bs) f = let e = f 0 (omega arith) in cc
first-None s (false ∷ bs) f = first-None (s + 1) bs (λ k l. f (suc k) (omega arith))

past-false : (flags : List Bool) (k : ℕ) → ((j : ℕ) → j < length flags → get_or flags j false ≡ false) → get_or flags k false ≡ false
past-false [] k p = grind (arith, common_steps)
past-false (b ∷ bs) zero p = p 0 (omega arith)
past-false (b ∷ bs) (suc k) p = past-false bs k (λ j h. p (suc j) (omega arith))

set-below : (flags : List Bool) (k : ℕ) → get_or flags k false ≡ true → k < length flags
set-below [] k e = grind (arith, common_steps, e)
set-below (b ∷ bs) zero e = omega arith
set-below (b ∷ bs) (suc k) e = omega (arith, set-below bs k e)

drop-same : (flags : List Bool) (n k : ℕ) → k ≡ min n (length flags) → drop n flags ≡ drop k flags
drop-same [] n k e = grind (arith, common_steps)
drop-same (b ∷ bs) zero k e = let z : k ≡ 0 = omega arith in rw z refl
drop-same (b ∷ bs) (suc n) k e = let z : k ≡ suc (k - 1) = omega arith in rw z (drop-same bs n (k - 1) (omega arith))

rest_is : (xs : List ℕ) (k : ℕ) → take (length xs - k) (drop k xs) ≡ drop k xs
rest_is xs k = take_all _ _ (rw length-drop (omega arith))

sliced : (bytes xs : List ℕ) (k : ℕ) → xs ≡ bytes → flags_of (take (length xs - k) (drop k xs)) ≡ drop k (flags_of bytes)
sliced bytes xs k e = ap flags_of (rest_is xs k) ∙ sym (drop-map (λ b. nat_eq b 1) k xs) ∙ ap (λ ys. drop k (flags_of ys)) e

not_set : (b : Bool) → b ≢ true → b ≡ false
not_set true n = absurd (n refl)
not_set false n = refl

-- the first flag that is set is at place i; none is set
abbrev IsFirstSet : List Bool → ℕ → Type 0
IsFirstSet flags i = (i < length flags) × (get_or flags i false ≡ true) × ((k : ℕ) → k < i → get_or flags k false ≡ false)

abbrev IsNoneSet : List Bool → Type 0
IsNoneSet flags = (k : ℕ) → k < length flags → get_or flags k false ≡ false

set_first : (bytes : List ℕ) (i : ℕ) → IsFirstByte (is_byte 1) bytes (Some i) → IsFirstSet (flags_of bytes) i
set_first bytes i f = (rw length-map f.0.high, flag-at bytes i ∙ f.1, λ k l. flag-at bytes k ∙ not_set _ (f.0.before k (omega arith) l))

set_nowhere : (bytes : List ℕ) → IsFirstByte (is_byte 1) bytes None → IsNoneSet (flags_of bytes)
set_nowhere bytes f k l = let h = simp length-map at l in flag-at bytes k ∙ not_set _ (f k (omega arith) h)

-- a search of the bytes from a place on: k is that place, or where the bytes end
found : (bytes xs : List ℕ) (k i : ℕ) → xs ≡ bytes → IsFirstByte (is_byte 1) (take (length xs - k) (drop k xs)) (Some i) → IsFirstSet (drop k (flags_of bytes)) i
found bytes xs k i same f = subst (λ fs. IsFirstSet fs i) (sliced bytes xs k same) (set_first _ i f)

found_none : (bytes xs : List ℕ) (k : ℕ) → xs ≡ bytes → IsFirstByte (is_byte 1) (take (length xs - k) (drop k xs)) None → IsNoneSet (drop k (flags_of bytes))
found_none bytes xs k same f = subst IsNoneSet (sliced bytes xs k same) (set_nowhere _ f)

within : (bytes : List ℕ) (n k i : ℕ) → k ≡ min n (length bytes) → i < length (drop k (flags_of bytes)) → k ≡ n
within bytes n k i e h = omega (arith, length-drop k (flags_of bytes), length-map bytes (λ b. nat_eq b 1), h, e)

pub next-head-Some : (bytes xs : List ℕ) (n k i : ℕ) → xs ≡ bytes → k ≡ min n (length bytes)
    → IsFirstByte (is_byte 1) (take (length xs - k) (drop k xs)) (Some i)
    → Some (k + i) ≡ slice_get (filter (λ m. nat_le n m) (places_from 0 (flags_of bytes))) 0
next-head-Some bytes xs n k i same e f =
    let flags = flags_of bytes in
    let p = found bytes xs k i same f in
    let w = within bytes n k i e p.0 in
    sym (ap (λ ms. slice_get ms 0) (filter-from 0 k n flags (omega arith)) ∙ rw (← w) (first-Some k (drop k flags) i p.0 p.1 p.2))

pub next-Some : (bytes xs : List ℕ) (n k i : ℕ) → xs ≡ bytes → k ≡ min n (length bytes)
    → IsFirstByte (is_byte 1) (take (length xs - k) (drop k xs)) (Some i) → IsNext (places_from 0 (flags_of bytes)) n (k + i)
next-Some bytes xs n k i same e f =
    let flags = flags_of bytes in
    let p = found bytes xs k i same f in
    let w = within bytes n k i e p.0 in
    record {
      member = places-has 0 flags (k + i) (k + i) (omega arith) ∙ sym (get_or-drop k flags i false) ∙ p.1;
      from = omega arith;
      first = λ j l m.
          let a : j ≡ k + (j - k) = omega arith in
          places-has 0 flags j j (omega arith) ∙ ap (λ x. get_or flags x false) a ∙ sym (get_or-drop k flags (j - k) false) ∙ p.2 (j - k) (omega arith);
    }

-- a member is the first from itself on
pub head-here : (bytes : List ℕ) (n : ℕ) → has (places_from 0 (flags_of bytes)) n ≡ true
    → Some n ≡ slice_get (filter (λ m. nat_le n m) (places_from 0 (flags_of bytes))) 0
head-here bytes n e =
    let flags = flags_of bytes in
    let set = sym (places-has 0 flags n n (omega arith)) ∙ e in
    let below = set-below flags n set in
    let there = first-Some n (drop n flags) 0 (omega (arith, length-drop n flags)) (get_or-drop n flags 0 false ∙ ap (λ k. get_or flags k false) (omega arith) ∙ set) (λ k l. absurd (omega arith)) in
    sym (ap (λ ms. slice_get ms 0) (filter-from 0 n n flags (omega arith)) ∙ there ∙ ap Some (omega arith))

pub next-None : (bytes xs : List ℕ) (n k : ℕ) → xs ≡ bytes → k ≡ min n (length bytes)
    → IsFirstByte (is_byte 1) (take (length xs - k) (drop k xs)) None → (m : ℕ) → n ≤ m → has (places_from 0 (flags_of bytes)) m ≡ false
next-None bytes xs n k same e f m l =
    let flags = flags_of bytes in
    let p = found_none bytes xs k same f in
    let a : m ≡ k + (m - k) = omega arith in
    places-has 0 flags m m (omega arith) ∙ ap (λ x. get_or flags x false) a ∙ sym (get_or-drop k flags (m - k) false) ∙ past-false (drop k flags) (m - k) p

pub next-head-None : (bytes xs : List ℕ) (n k : ℕ) → xs ≡ bytes → k ≡ min n (length bytes)
    → IsFirstByte (is_byte 1) (take (length xs - k) (drop k xs)) None → None ≡ slice_get (filter (λ m. nat_le n m) (places_from 0 (flags_of bytes))) 0
next-head-None bytes xs n k same e f =
    let flags = flags_of bytes in
    let p = found_none bytes xs k same f in
    let d : drop n flags ≡ drop k flags = drop-same flags n k (rw length-map e) in
    sym (ap (λ ms. slice_get ms 0) (filter-from 0 n n flags (omega arith) ∙ ap (places_from n) d ∙ first-None n (drop k flags) p))

pub members-below : (bytes : List ℕ) (n : ℕ) → has (places_from 0 (flags_of bytes)) n ≡ true → n < length bytes
members-below bytes n e =
    let flags = flags_of bytes in
    let h = set-below flags n (sym (places-has 0 flags n n (omega arith)) ∙ e) in
    simp length-map at h

-- the list of the places from i on that a search gives
listed : (bytes : List ℕ) (i n : ℕ) → i + n ≡ length bytes → listed_from (is_byte 1) bytes i n ≡ places_from i (drop i (flags_of bytes))
unfolding listed_from
listed bytes i zero e = sym (ap (places_from i) (drop_all i (flags_of bytes) (rw length-map (omega arith))))
listed bytes i (suc n) e =
    let flags = flags_of bytes in
    let rest = places_from (i + 1) (drop (i + 1) flags) in
    ap (λ l. if nat_eq (get_or bytes i 0) 1 then i ∷ l else l) (listed bytes (i + 1) n (omega arith))
    ∙ ap (λ t. if t then i ∷ rest else rest) (sym (flag-at bytes i))
    ∙ sym (ap (places_from i) (drop_more flags i false (rw length-map (omega arith))))

pub search-places : (bytes : List ℕ) → places (is_byte 1) bytes ≡ places_from 0 (flags_of bytes)
search-places bytes = listed bytes 0 (length bytes - 0) (omega arith)

-- what is true of a list is true of what follows its first item, which goes to the end of the list before it
pub rest-all : (P : ℕ → Type 0) (xs rest : List ℕ) (x : ℕ) → xs ≡ x ∷ rest → All P xs → All P rest
rest-all P xs rest x e a k d h =
    let b = subst (All P) e a in
    b (suc k) d (omega arith)

pub rest-listed : (list more xs rest whole : List ℕ) (x : ℕ) → more ≡ list ++ x ∷ [] → xs ≡ x ∷ rest → list ++ xs ≡ whole → more ++ rest ≡ whole
rest-listed list more xs rest whole x m e w = ap (λ l. l ++ rest) m ∙ append_assoc list (x ∷ []) rest ∙ ap (λ l. list ++ l) (sym e) ∙ w
