-- Lists that lie among cells of which some are written, or behind which more are put.
use Rattle.std.proofs.Common.{◌≡◌, ℕ, zero, suc, ◌+◌, ◌-◌, ◌<◌, ◌≤◌, List, [], ◌∷◌, ◌++◌, length, take, drop, refl, sym, ap, ◌∙◌, arith, set, length-set, length-take, length-drop, length-append, get_or, Some, true, false, nat_lt, ◌⊎◌, inl, inr}
use Rattle.std.specs.Prelude.{position, nat_eq, if◌then◌else◌}
use Rattle.std.specs.List.{swap_remove, IsDistinct}
use Rattle.std.proofs.lemmas.List.{get_or_default}
use Rattle.std.proofs.lemmas.List.Quantifiers.{position-Some}
use Rattle.std.proofs.lemmas.Bool.Decides.{nat_tests}
use Rattle.cell_lists.specs.declared.segment.Segment.{Segment}
use Rattle.cell_lists.specs.Segments.{items_in, LiesWithin, IsApart, Begins, Writes, IsMoved, IsWithout}
use Rattle.cell_lists.proofs.ListWithout.{taken}

-- cells behind others
take-more : (n : ℕ) (xs more : List ℕ) → n ≤ length xs → take n (xs ++ more) ≡ take n xs
take-more zero xs more h = refl
take-more (suc n) [] more h = absurd (omega arith)
take-more (suc n) (x ∷ xs) more h = ap (λ l. x ∷ l) (take-more n xs more (omega arith))

part-more : (a n : ℕ) (xs more : List ℕ) → a + n ≤ length xs → take n (drop a (xs ++ more)) ≡ take n (drop a xs)
part-more zero n xs more h = take-more n xs more (omega arith)
part-more (suc a) n [] more h = absurd (omega arith)
part-more (suc a) n (x ∷ xs) more h = part-more a n xs more (omega arith)

-- a cell that is written outside
take-before : (n k : ℕ) (xs : List ℕ) (v : ℕ) → n ≤ k → take n (set xs k v) ≡ take n xs
take-before zero k xs v h = refl
take-before (suc n) zero xs v h = absurd (omega arith)
take-before (suc n) (suc k) [] v h = refl
take-before (suc n) (suc k) (x ∷ xs) v h = ap (λ l. x ∷ l) (take-before n k xs v (omega arith))

part-set-after : (a n k : ℕ) (xs : List ℕ) (v : ℕ) → a + n ≤ k → take n (drop a (set xs k v)) ≡ take n (drop a xs)
part-set-after zero n k xs v h = take-before n k xs v (omega arith)
part-set-after (suc a) n zero xs v h = absurd (omega arith)
part-set-after (suc a) n (suc k) [] v h = refl
part-set-after (suc a) n (suc k) (x ∷ xs) v h = part-set-after a n k xs v (omega arith)

drop-set-before : (a k : ℕ) (xs : List ℕ) (v : ℕ) → k < a → drop a (set xs k v) ≡ drop a xs
drop-set-before zero k xs v h = absurd (omega arith)
drop-set-before (suc a) k [] v h = refl
drop-set-before (suc a) zero (x ∷ xs) v h = refl
drop-set-before (suc a) (suc k) (x ∷ xs) v h = drop-set-before a k xs v (omega arith)

-- a cell that is written inside
pub drop-set : (a k m : ℕ) (xs : List ℕ) (v : ℕ) → m ≡ a + k → drop a (set xs m v) ≡ set (drop a xs) k v
drop-set zero k m xs v e = let same : m ≡ k = omega (arith, e) in ap (λ j. set xs j v) same
drop-set (suc a) k zero xs v e = absurd (omega (arith, e))
drop-set (suc a) k (suc m) [] v e = refl
drop-set (suc a) k (suc m) (x ∷ xs) v e = drop-set a k m xs v (omega (arith, e))

take-set : (n k : ℕ) (xs : List ℕ) (v : ℕ) → k < n → take n (set xs k v) ≡ set (take n xs) k v
take-set zero k xs v h = absurd (omega arith)
take-set (suc n) k [] v h = refl
take-set (suc n) zero (x ∷ xs) v h = refl
take-set (suc n) (suc k) (x ∷ xs) v h = ap (λ l. x ∷ l) (take-set n k xs v (omega arith))

take-next : (n m : ℕ) (xs : List ℕ) (v : ℕ) → m ≡ n + 1 → n < length xs → take m (set xs n v) ≡ take n xs ++ v ∷ []
take-next n m [] v e h = absurd (omega arith)
take-next n zero (x ∷ xs) v e h = absurd (omega (arith, e))
take-next zero (suc zero) (x ∷ xs) v e h = refl
take-next zero (suc (suc m)) (x ∷ xs) v e h = absurd (omega (arith, e))
take-next (suc n) (suc m) (x ∷ xs) v e h = ap (λ l. x ∷ l) (take-next n m xs v (omega (arith, e)) (omega arith))

-- apart either way
pub turned : (s t : Segment) → IsApart s t → IsApart t s
turned s t h a b = elim (h b a) [
  | inl e ↦ inr e
  | inr e ↦ inl e
]

pub short-is : (n : ℕ) → nat_lt n 2 ≡ true → n < 2
short-is n h = grind (arith, nat_tests, h)

pub long-is : (n : ℕ) → nat_lt n 2 ≡ false → 2 ≤ n
long-is n h = grind (arith, nat_tests, h)

pub reserved-cases : (n : ℕ) → (n < 2) ⊎ (2 ≤ n)
reserved-cases zero = inl (omega arith)
reserved-cases (suc zero) = inl (omega arith)
reserved-cases (suc (suc n)) = inr (omega arith)

-- a list in the segment itself, and one among the cells
pub short-items : (cells : List ℕ) (s : Segment) → s.reserved < 2 → items_in cells s ≡ take s.len (s.first ∷ [])
short-items cells s h =
    let e : nat_lt s.reserved 2 ≡ true = grind (arith, nat_tests) in
    ap (λ b. if b then take s.len (s.first ∷ []) else take s.len (drop s.first cells)) e

pub long-items : (cells : List ℕ) (s : Segment) → 2 ≤ s.reserved → items_in cells s ≡ take s.len (drop s.first cells)
long-items cells s h =
    let e : nat_lt s.reserved 2 ≡ false = grind (arith, nat_tests) in
    ap (λ b. if b then take s.len (s.first ∷ []) else take s.len (drop s.first cells)) e

-- the length of a list
pub items-length : (cells : List ℕ) (s : Segment) → LiesWithin (length cells) s → length (items_in cells s) ≡ s.len
items-length cells s w = elim (reserved-cases s.reserved) [
  | inl h ↦ omega (arith, ap length (short-items cells s h), length-take s.len (s.first ∷ []), w.fits)
  | inr h ↦ omega (arith, ap length (long-items cells s h), length-take s.len (drop s.first cells), length-drop s.first cells, w.fits, w.ends h)
]

-- an empty list has no numbers
pub items-none : (cells : List ℕ) (s : Segment) → s.len ≡ 0 → items_in cells s ≡ []
items-none cells s e = elim (reserved-cases s.reserved) [
  | inl h ↦ short-items cells s h ∙ ap (λ n. take n (s.first ∷ [])) e
  | inr h ↦ long-items cells s h ∙ ap (λ n. take n (drop s.first cells)) e
]

-- lists before cells that are put behind
pub items-more : (cells new : List ℕ) (s : Segment) → Begins cells new → LiesWithin (length cells) s → items_in new s ≡ items_in cells s
items-more cells new s (more, is) w = elim (reserved-cases s.reserved) [
  | inl h ↦ short-items new s h ∙ sym (short-items cells s h)
  | inr h ↦ long-items new s h ∙ ap (λ l. take s.len (drop s.first l)) is ∙ part-more s.first s.len cells more (omega (arith, w.fits, w.ends h)) ∙ sym (long-items cells s h)
]

pub longer : (cells new : List ℕ) → Begins cells new → length cells ≤ length new
longer cells new (more, is) = omega (arith, ap length is, length-append cells more)

within-longer : (a b : ℕ) (s : Segment) → a ≤ b → LiesWithin a s → LiesWithin b s
within-longer a b s h w = record { fits = w.fits; ends = λ l. omega (arith, w.ends l) }

-- nothing is written of the list
pub writes-nothing : (old new : List ℕ) (s : Segment) → Begins old new → LiesWithin (length old) s → Writes old new s s
writes-nothing old new s b w = record {
  within = within-longer _ _ s (longer old new b) w;
  longer = longer old new b;
  apart = λ u within apart. apart;
  others = λ u within apart. items-more old new u b within;
}

pub writes-moved : (old new : List ℕ) (s t : Segment) → Begins old new → IsMoved old new s t → Writes old new s t
writes-moved old new s t b m = record {
  within = m.within;
  longer = longer old new b;
  apart = λ u within apart i j. inr (omega (arith, within.ends j, m.behind));
  others = λ u within apart. items-more old new u b within;
}

-- the list in a segment is written
pub writes-short : (cells : List ℕ) (s t : Segment) → t.reserved < 2 → t.len ≤ t.reserved → Writes cells cells s t
writes-short cells s t h fits = record {
  within = record { fits = fits; ends = λ l. absurd (omega (arith, h, l)) };
  longer = omega arith;
  apart = λ u within apart i j. absurd (omega (arith, h, i));
  others = λ u within apart. refl;
}

-- a list apart from the one in which a cell is written
pub set-apart : (cells : List ℕ) (s u : Segment) (k v : ℕ) → LiesWithin (length cells) u → IsApart s u → 2 ≤ s.reserved → s.first ≤ k → k < s.first + s.reserved → items_in (set cells k v) u ≡ items_in cells u
set-apart cells s u k v w a long low high = elim (reserved-cases u.reserved) [
  | inl h ↦ short-items (set cells k v) u h ∙ sym (short-items cells u h)
  | inr h ↦ long-items (set cells k v) u h ∙ elim (a long h) [
    | inl e ↦ ap (take u.len) (drop-set-before u.first k cells v (omega (arith, e, high)))
    | inr e ↦ part-set-after u.first u.len k cells v (omega (arith, w.fits, e, low))
  ] ∙ sym (long-items cells u h)
]

-- a cell of a list is written, which then has another length
pub writes-set : (cells : List ℕ) (s t : Segment) (k v : ℕ) → LiesWithin (length cells) s → 2 ≤ s.reserved → s.first ≤ k → k < s.first + s.reserved
    → t.first ≡ s.first → t.reserved ≡ s.reserved → t.len ≤ s.reserved → Writes cells (set cells k v) s t
writes-set cells s t k v w long low high at reserved len = record {
  within = record { fits = omega (arith, len, reserved); ends = λ l. omega (arith, w.ends long, at, reserved, length-set cells k v) };
  longer = omega (arith, length-set cells k v);
  apart = λ u within apart i j. elim (apart long j) [
    | inl h ↦ inl (omega (arith, at, reserved, h))
    | inr h ↦ inr (omega (arith, at, reserved, h))
  ];
  others = λ u within apart. set-apart cells s u k v within apart long low high;
}

-- a number is put behind the others of a list
pub short-pushed : (cells : List ℕ) (s t : Segment) (v : ℕ) → s.reserved < 2 → s.len ≡ 0 → t.reserved ≡ s.reserved → t.first ≡ v → t.len ≡ 1 → items_in cells t ≡ items_in cells s ++ v ∷ []
short-pushed cells s t v h none reserved at len =
    short-items cells t (omega (arith, h, reserved)) ∙ ap (λ n. take n (t.first ∷ [])) len ∙ ap (λ n. n ∷ []) at
    ∙ ap (λ l. l ++ v ∷ []) (sym (short-items cells s h ∙ ap (λ n. take n (s.first ∷ [])) none))

pub items-pushed : (cells : List ℕ) (s t : Segment) (v : ℕ) → LiesWithin (length cells) s → 2 ≤ s.reserved → s.len < s.reserved → t.first ≡ s.first → t.reserved ≡ s.reserved → t.len ≡ s.len + 1
    → items_in (set cells (s.first + s.len) v) t ≡ items_in cells s ++ v ∷ []
items-pushed cells s t v w long h at reserved len =
    long-items (set cells (s.first + s.len) v) t (omega (arith, long, reserved))
    ∙ ap (λ a. take t.len (drop a (set cells (s.first + s.len) v))) at
    ∙ ap (take t.len) (drop-set s.first s.len (s.first + s.len) cells v refl)
    ∙ take-next s.len t.len (drop s.first cells) v len (omega (arith, w.ends long, length-drop s.first cells))
    ∙ ap (λ l. l ++ v ∷ []) (sym (long-items cells s long))

get-nothing : (n k d : ℕ) → get_or (take n []) k d ≡ d
get-nothing zero k d = refl
get-nothing (suc n) k d = refl

get-part : (a n k m : ℕ) (xs : List ℕ) (d : ℕ) → k < n → m ≡ a + k → get_or (take n (drop a xs)) k d ≡ get_or xs m d
get-part zero zero k m xs d h e = absurd (omega arith)
get-part zero (suc n) k m [] d h e = refl
get-part zero (suc n) zero zero (x ∷ xs) d h e = refl
get-part zero (suc n) zero (suc m) (x ∷ xs) d h e = absurd (omega (arith, e))
get-part zero (suc n) (suc k) zero (x ∷ xs) d h e = absurd (omega (arith, e))
get-part zero (suc n) (suc k) (suc m) (x ∷ xs) d h e = get-part zero n k m xs d (omega arith) (omega (arith, e))
get-part (suc a) n k zero xs d h e = absurd (omega (arith, e))
get-part (suc a) n k (suc m) [] d h e = get-nothing n k d
get-part (suc a) n k (suc m) (x ∷ xs) d h e = get-part a n k m xs d h (omega (arith, e))

take-less : (m n : ℕ) (xs : List ℕ) → m ≤ n → take m (take n xs) ≡ take m xs
take-less zero n xs h = refl
take-less (suc m) zero xs h = absurd (omega arith)
take-less (suc m) (suc n) [] h = refl
take-less (suc m) (suc n) (x ∷ xs) h = ap (λ l. x ∷ l) (take-less m n xs (omega arith))

-- the last number comes to another's place
items-taken : (cells : List ℕ) (s t : Segment) (k d x : ℕ) → LiesWithin (length cells) s → 2 ≤ s.reserved → k < s.len → t.first ≡ s.first → t.reserved ≡ s.reserved → t.len ≡ s.len - 1
    → x ≡ get_or cells (s.first + (s.len - 1)) d → items_in (set cells (s.first + k) x) t ≡ swap_remove (items_in cells s) k d
items-taken cells s t k d x w long h at reserved len is =
    let n = items-length cells s w in
    let e = long-items cells s long in
    let ys = drop s.first cells in
    let last : get_or (items_in cells s) (length (items_in cells s) - 1) d ≡ x =
    ap (λ m. get_or (items_in cells s) (m - 1) d) n ∙ ap (λ l. get_or l (s.len - 1) d) e
    ∙ get-part s.first s.len (s.len - 1) (s.first + (s.len - 1)) cells d (omega arith) refl ∙ sym is in
    long-items (set cells (s.first + k) x) t (omega (arith, long, reserved))
    ∙ ap (λ a. take t.len (drop a (set cells (s.first + k) x))) at
    ∙ ap (take t.len) (drop-set s.first k (s.first + k) cells x refl)
    ∙ sym (take-less t.len s.len (set ys k x) (omega (arith, len)))
    ∙ ap (take t.len) (take-set s.len k ys x h)
    ∙ ap (λ l. take t.len (set l k x)) (sym e)
    ∙ ap (λ m. take m (set (items_in cells s) k x)) (omega (arith, len, n))
    ∙ ap (λ y. take (length (items_in cells s) - 1) (set (items_in cells s) k y)) (sym last)

-- a number is taken out of a list among the cells
pub long-taken : (cells : List ℕ) (s t : Segment) (k x : ℕ) → LiesWithin (length cells) s → 2 ≤ s.reserved → k < s.len → t.first ≡ s.first → t.reserved ≡ s.reserved → t.len ≡ s.len - 1
    → x ≡ get_or cells (s.first + (s.len - 1)) x → items_in (set cells (s.first + k) x) t ≡ swap_remove (items_in cells s) k 0
long-taken cells s t k x w long h at reserved len is =
    items-taken cells s t k 0 x w long h at reserved len (is ∙ get_or_default cells (s.first + (s.len - 1)) x 0 (omega (arith, w.ends long, w.fits, h)))

-- and out of a list in the segment
pub short-taken : (cells : List ℕ) (s t : Segment) (k : ℕ) → LiesWithin (length cells) s → s.reserved < 2 → k < s.len → t.reserved ≡ s.reserved → t.len ≡ s.len - 1 → items_in cells t ≡ swap_remove (items_in cells s) k 0
short-taken cells s t k w short h reserved len =
    let xs = items_in cells s in
    let one : s.len ≡ 1 = omega (arith, h, w.fits, short) in
    let nothing : t.len ≡ 0 = omega (arith, len, one) in
    short-items cells t (omega (arith, short, reserved)) ∙ ap (λ m. take m (t.first ∷ [])) nothing
    ∙ ap (λ m. take (m - 1) (set xs k (get_or xs (length xs - 1) 0))) (sym (items-length cells s w ∙ one))

-- that leaves the list without the other
module _ (cells : List ℕ) (s : Segment) (k n : ℕ) (w : LiesWithin (length cells) s) (at : position (nat_eq n) (items_in cells s) ≡ Some k) where
  pub place-within : k < s.len
  place-within = omega (arith, (position-Some (nat_eq n) (items_in cells s) k 0 at).0, items-length cells s w)

  pub items-without : (ys : List ℕ) → IsDistinct nat_eq (items_in cells s) → ys ≡ swap_remove (items_in cells s) k 0 → IsWithout (items_in cells s) ys n
  items-without ys once is =
      let xs = items_in cells s in
      let within : k < length xs = omega (arith, place-within, items-length cells s w) in
      let d = get_or xs k 0 in
      taken xs ys n k d once at (get_or_default xs k 0 d within)
      (is ∙ ap (λ y. take (length xs - 1) (set xs k y)) (get_or_default xs (length xs - 1) 0 d (omega (arith, within))))
