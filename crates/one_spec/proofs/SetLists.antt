-- The numbers of edges between blocks, counted along one list, and what merging two blocks makes of them.
use Rattle.std.proofs.Common.{◌≡◌, ◌≢◌, ℕ, ◌+◌, ◌≤◌, List, [], ◌∷◌, Option, Some, None, refl, sym, ◌∙◌, ap, subst, arith, inl, inr, true, false, Bool, cond, ◌&&◌, count_by}
use Rattle.std.specs.Prelude.{nat_eq, ◌||◌}
use Rattle.std.specs.List.{IsDistinct, AllByRecursion, list_any}
use Rattle.std.specs.FinSet as set
use Rattle.std.proofs.lemmas.Bool.{cases_Bool, or_parts}
use Rattle.std.proofs.lemmas.Bool.Decides.{eqb_tells}
use Rattle.std.proofs.lemmas.List.Sums.{sum_by-cons}
use Rattle.graph_spec.specs.Members.{at, is_this}
use Rattle.graph_spec.specs.Graphs.{Edges, edge_cmp}
use Rattle.bisim_spec.specs.Stability.{merged_at}
use Rattle.bisim_spec.specs.Supports.{joins, support, edges_between}
use Rattle.bisim_spec.proofs.BelowLaws.{bit_of}
use Rattle.one_spec.specs.Merges.{IsMerged}
use Rattle.bisim_spec.proofs.EdgeSets.{eq, eq_is, kept, len_more}

-- a list without repeats
abbrev once : List (ℕ × ℕ) → List (ℕ × ℕ)
once [] = []
once (z ∷ zs) = cond (list_any (eq z) (once zs)) (once zs) (z ∷ once zs)

once_yes : (z : ℕ × ℕ) (zs : List (ℕ × ℕ)) → list_any (eq z) (once zs) ≡ true → once (z ∷ zs) ≡ once zs
once_yes z zs t = ap (λ b. cond b (once zs) (z ∷ once zs)) t

once_no : (z : ℕ × ℕ) (zs : List (ℕ × ℕ)) → list_any (eq z) (once zs) ≡ false → once (z ∷ zs) ≡ z ∷ once zs
once_no z zs f = ap (λ b. cond b (once zs) (z ∷ once zs)) f

once_any : (k : ℕ × ℕ) (zs : List (ℕ × ℕ)) → list_any (eq k) (once zs) ≡ list_any (eq k) zs
once_any k [] = refl
once_any k (z ∷ zs) = elim (cases_Bool (list_any (eq z) (once zs))) [
  | inl t ↦ ap (list_any (eq k)) (once_yes z zs t) ∙ elim (cases_Bool (eq k z)) [
    | inl h ↦ ap (λ x. list_any (eq x) (once zs)) (eq_is k z h) ∙ t ∙ sym (ap (λ b. b || list_any (eq k) zs) h)
    | inr h ↦ once_any k zs ∙ sym (ap (λ b. b || list_any (eq k) zs) h)
  ]
  | inr f ↦ ap (list_any (eq k)) (once_no z zs f) ∙ ap (λ b. eq k z || b) (once_any k zs)
]

none_from : (z : ℕ × ℕ) (zs : List (ℕ × ℕ)) → list_any (eq z) zs ≡ false → AllByRecursion (λ y. eq z y ≡ false) zs
none_from z [] h = tt
none_from z (y ∷ ys) h = (let f = or_parts (eq z y) (list_any (eq z) ys) h in (f.0, none_from z ys f.1))

once_distinct : (zs : List (ℕ × ℕ)) → IsDistinct eq (once zs)
unfolding IsDistinct
once_distinct [] = tt
once_distinct (z ∷ zs) = elim (cases_Bool (list_any (eq z) (once zs))) [
  | inl t ↦ subst (IsDistinct eq) (sym (once_yes z zs t)) (once_distinct zs)
  | inr f ↦ subst (IsDistinct eq) (sym (once_no z zs f)) (none_from z (once zs) f, once_distinct zs)
]

-- a list that counts as the set does, whatever the blocks
pub record CountsAs (edges : Edges) (list : List (ℕ × ℕ)) : Type 0 where
  pub same : (block : List (Option ℕ)) (x y : ℕ) → edges_between edges block x y ≡ support list block x y

and_self : (a b c : Bool) → a ≡ b → (b && c) ≡ ((a && c) || false)
and_self true true true e = refl
and_self true true false e = refl
and_self true false c e = absurd (cc)
and_self false true c e = absurd (cc)
and_self false false c e = refl

pub counts_as_list : (edges : Edges) → CountsAs edges (once (set.items edges))
counts_as_list edges = record {
  same = λ block x y.
      let zero_len = set.len-empty edge_cmp in
      let counted = len_more (joins block x y) set.empty (once (set.items edges)) (once_distinct (set.items edges)) (λ k h g. set.contains-empty edge_cmp k)
      (set.retain edges (joins block x y)) (λ k.
      kept edges (joins block x y) k
      ∙ and_self (list_any (eq k) (once (set.items edges))) (set.contains edges k) (joins block x y k) (once_any k (set.items edges) ∙ sym (set.contains-items edges k))
      ∙ sym (ap (λ b. (list_any (eq k) (once (set.items edges)) && joins block x y k) || b) (set.contains-empty edge_cmp k))) in
      omega (arith, counted, zero_len);
}

-- merging two blocks

count_cons : (q : ℕ × ℕ → Bool) (z : ℕ × ℕ) (zs : List (ℕ × ℕ)) → count_by q (z ∷ zs) ≡ cond (q z) 1 0 + count_by q zs
count_cons q z zs = sum_by-cons (λ (e : ℕ × ℕ). cond (q e) 1 0) z zs

count_alike : (p q : ℕ × ℕ → Bool) (zs : List (ℕ × ℕ)) → ((e : ℕ × ℕ) → p e ≡ q e) → count_by p zs ≡ count_by q zs
count_alike p q [] h = refl
count_alike p q (z ∷ zs) h =
    let rest = count_alike p q zs h in
    let a = count_cons p z zs in
    let b = count_cons q z zs in
    let c : bit_of (p z) ≡ bit_of (q z) = ap bit_of (h z) in
    omega (arith, rest, a, b, c)

bit_or : (p q : Bool) → (p && q) ≡ false → cond (p || q) 1 0 ≡ cond p 1 0 + cond q 1 0
bit_or true true h = absurd (cc)
bit_or true false h = refl
bit_or false true h = refl
bit_or false false h = refl

count_or : (p q : ℕ × ℕ → Bool) (zs : List (ℕ × ℕ)) → ((e : ℕ × ℕ) → (p e && q e) ≡ false) → count_by (λ e. p e || q e) zs ≡ count_by p zs + count_by q zs
count_or p q [] h = refl
count_or p q (z ∷ zs) h =
    let rest = count_or p q zs h in
    let a = count_cons p z zs in
    let b = count_cons q z zs in
    let c = count_cons (λ e. p e || q e) z zs in
    let d = bit_or (p z) (q z) (h z) in
    omega (arith, rest, a, b, c, d)

count_none : (p : ℕ × ℕ → Bool) (zs : List (ℕ × ℕ)) → ((e : ℕ × ℕ) → p e ≡ false) → count_by p zs ≡ 0
count_none p [] h = refl
count_none p (z ∷ zs) h =
    let rest = count_none p zs h in
    let a = count_cons p z zs in
    let c : bit_of (p z) ≡ 0 = ap bit_of (h z) in
    omega (arith, rest, a, c)

-- the block of a node once b is replaced by a
block_into : (a b : ℕ) (o : Option ℕ) → is_this a (merged_at a b o) ≡ (is_this a o || is_this b o)
block_into a b None = refl
block_into a b (Some c) = elim (eqb_tells c b) [
  | inl t ↦ rw (t.0) (elim (eqb_tells a a) [
    | inl s ↦ rw s.0 (sym (elim (eqb_tells b c) [ inl k ↦ rw k.0 (or_yes (nat_eq a c)) | inr k ↦ absurd (k.1 (sym t.1)) ]))
    | inr d ↦ absurd (d.1 refl)
  ])
  | inr f ↦ rw (f.0) (sym (elim (eqb_tells b c) [ inl k ↦ absurd (f.1 (sym k.1)) | inr k ↦ rw k.0 (or_no (nat_eq a c)) ]))
]
  where
    or_yes : (x : Bool) → (x || true) ≡ true
    or_yes true = refl
    or_yes false = refl

    or_no : (x : Bool) → (x || false) ≡ x
    or_no true = refl
    or_no false = refl

block_gone : (a b : ℕ) (o : Option ℕ) → a ≢ b → is_this b (merged_at a b o) ≡ false
block_gone a b None ne = refl
block_gone a b (Some c) ne = elim (eqb_tells c b) [
  | inl t ↦ rw (t.0) (elim (eqb_tells b a) [ inl s ↦ absurd (ne (sym s.1)) | inr d ↦ d.0 ])
  | inr f ↦ rw (f.0) (elim (eqb_tells b c) [ inl s ↦ absurd (f.1 (sym s.1)) | inr d ↦ d.0 ])
]

block_other : (a b x : ℕ) (o : Option ℕ) → x ≢ a → x ≢ b → is_this x (merged_at a b o) ≡ is_this x o
block_other a b x None na nb = refl
block_other a b x (Some c) na nb = elim (eqb_tells c b) [
  | inl t ↦ rw (t.0) (elim (eqb_tells x a) [
    | inl s ↦ absurd (na s.1)
    | inr d ↦ d.0 ∙ sym (elim (eqb_tells x c) [ inl s ↦ absurd (nb (s.1 ∙ t.1)) | inr k ↦ k.0 ])
  ])
  | inr f ↦ rw (f.0) refl
]

counted : (edges : Edges) (p : List (Option ℕ)) (x y : ℕ) → edges_between edges p x y ≡ count_by (joins p x y) (once (set.items edges))
counted edges p x y = (counts_as_list edges).same p x y

-- no number is both
block_apart : (a b : ℕ) (o : Option ℕ) → a ≢ b → (is_this a o && is_this b o) ≡ false
block_apart a b None ne = refl
block_apart a b (Some c) ne = elim (eqb_tells a c) [
  | inl s ↦ rw s.0 (elim (eqb_tells b c) [ inl t ↦ absurd (ne (s.1 ∙ sym t.1)) | inr d ↦ d.0 ])
  | inr d ↦ rw d.0 refl
]

and_first : (x y z : Bool) → ((x && y) || (x && z)) ≡ (x && (y || z))
and_first true y z = refl
and_first false y z = refl

and_last : (x y z : Bool) → ((y && x) || (z && x)) ≡ ((y || z) && x)
and_last x true true = by x
  where
    by : (x : Bool) → (x || x) ≡ x
    by true = refl
    by false = refl
and_last x true false = by x
  where
    by : (x : Bool) → (x || false) ≡ x
    by true = refl
    by false = refl
and_last x false z = refl

apart_last : (x y z : Bool) → (y && z) ≡ false → ((x && y) && (x && z)) ≡ false
apart_last true y z h = h
apart_last false y z h = refl

apart_first : (x y z : Bool) → (y && z) ≡ false → ((y && x) && (z && x)) ≡ false
apart_first x true true h = absurd (cc)
apart_first x true false h = none x
  where
    none : (x : Bool) → (x && false) ≡ false
    none true = refl
    none false = refl
apart_first x false z h = refl

and_none : (x : Bool) → (x && false) ≡ false
and_none true = refl
and_none false = refl

-- numbers of edges between two other blocks
pub between_other : (edges : Edges) (a b : ℕ) (p p2 : List (Option ℕ)) → IsMerged a b p p2 → (x y : ℕ) → x ≢ a → x ≢ b → y ≢ a → y ≢ b
    → edges_between edges p2 x y ≡ edges_between edges p x y
between_other edges a b p p2 m x y xa xb ya yb =
    counted edges p2 x y ∙ count_alike (joins p2 x y) (joins p x y) (once (set.items edges)) (λ e.
    rw (m.blocks e.0, m.blocks e.1, block_other a b x (at p e.0) xa xb, block_other a b y (at p e.1) ya yb) refl)
    ∙ sym (counted edges p x y)

-- onto the merged block, from another one
pub between_onto : (edges : Edges) (a b : ℕ) (p p2 : List (Option ℕ)) → IsMerged a b p p2 → a ≢ b → (x : ℕ) → x ≢ a → x ≢ b
    → edges_between edges p2 x a ≡ edges_between edges p x a + edges_between edges p x b
between_onto edges a b p p2 m ne x xa xb =
    counted edges p2 x a ∙ count_alike (joins p2 x a) (λ e. joins p x a e || joins p x b e) (once (set.items edges)) (λ e.
    rw (m.blocks e.0, m.blocks e.1, block_other a b x (at p e.0) xa xb, block_into a b (at p e.1))
    (sym (and_first (is_this x (at p e.0)) (is_this a (at p e.1)) (is_this b (at p e.1)))))
    ∙ count_or (joins p x a) (joins p x b) (once (set.items edges)) (λ e.
    apart_last (is_this x (at p e.0)) (is_this a (at p e.1)) (is_this b (at p e.1)) (block_apart a b (at p e.1) ne))
    ∙ ap (λ n. n + count_by (joins p x b) (once (set.items edges))) (sym (counted edges p x a)) ∙ ap (λ n. edges_between edges p x a + n) (sym (counted edges p x b))

-- from the merged block to another one
pub between_from : (edges : Edges) (a b : ℕ) (p p2 : List (Option ℕ)) → IsMerged a b p p2 → a ≢ b → (y : ℕ) → y ≢ a → y ≢ b
    → edges_between edges p2 a y ≡ edges_between edges p a y + edges_between edges p b y
between_from edges a b p p2 m ne y ya yb =
    counted edges p2 a y ∙ count_alike (joins p2 a y) (λ e. joins p a y e || joins p b y e) (once (set.items edges)) (λ e.
    rw (m.blocks e.0, m.blocks e.1, block_other a b y (at p e.1) ya yb, block_into a b (at p e.0))
    (sym (and_last (is_this y (at p e.1)) (is_this a (at p e.0)) (is_this b (at p e.0)))))
    ∙ count_or (joins p a y) (joins p b y) (once (set.items edges)) (λ e.
    apart_first (is_this y (at p e.1)) (is_this a (at p e.0)) (is_this b (at p e.0)) (block_apart a b (at p e.0) ne))
    ∙ ap (λ n. n + count_by (joins p b y) (once (set.items edges))) (sym (counted edges p a y)) ∙ ap (λ n. edges_between edges p a y + n) (sym (counted edges p b y))

-- within the merged block
pub between_within : (edges : Edges) (a b : ℕ) (p p2 : List (Option ℕ)) → IsMerged a b p p2 → a ≢ b
    → edges_between edges p2 a a ≡ (edges_between edges p a a + edges_between edges p a b) + (edges_between edges p b a + edges_between edges p b b)
between_within edges a b p p2 m ne =
    let zs = once (set.items edges) in
    let whole : edges_between edges p2 a a ≡ count_by (λ e. (joins p a a e || joins p a b e) || (joins p b a e || joins p b b e)) zs =
    counted edges p2 a a ∙ count_alike (joins p2 a a) (λ e. (joins p a a e || joins p a b e) || (joins p b a e || joins p b b e)) zs (λ e.
    rw (m.blocks e.0, m.blocks e.1, block_into a b (at p e.0), block_into a b (at p e.1))
    (sym (four (is_this a (at p e.0)) (is_this b (at p e.0)) (is_this a (at p e.1)) (is_this b (at p e.1))))) in
    let outer = count_or (λ e. joins p a a e || joins p a b e) (λ e. joins p b a e || joins p b b e) zs (λ e.
    four_apart (is_this a (at p e.0)) (is_this b (at p e.0)) (is_this a (at p e.1)) (is_this b (at p e.1)) (block_apart a b (at p e.0) ne)) in
    let first = count_or (joins p a a) (joins p a b) zs (λ e.
    apart_last (is_this a (at p e.0)) (is_this a (at p e.1)) (is_this b (at p e.1)) (block_apart a b (at p e.1) ne)) in
    let second = count_or (joins p b a) (joins p b b) zs (λ e.
    apart_last (is_this b (at p e.0)) (is_this a (at p e.1)) (is_this b (at p e.1)) (block_apart a b (at p e.1) ne)) in
    let aa = counted edges p a a in
    let ab = counted edges p a b in
    let ba = counted edges p b a in
    let bb = counted edges p b b in
    omega (arith, whole, outer, first, second, aa, ab, ba, bb)
  where
    four : (x y z w : Bool) → (((x && z) || (x && w)) || ((y && z) || (y && w))) ≡ ((x || y) && (z || w))
    four true true true w = refl
    four true true false true = refl
    four true true false false = refl
    four true false true w = refl
    four true false false true = refl
    four true false false false = refl
    four false true true w = refl
    four false true false true = refl
    four false true false false = refl
    four false false z w = refl

    four_apart : (x y z w : Bool) → (x && y) ≡ false → (((x && z) || (x && w)) && ((y && z) || (y && w))) ≡ false
    four_apart true true z w h = absurd (cc)
    four_apart true false z w h = and_none (z || w)
    four_apart false y z w h = refl

-- the block that was merged has no edges
pub between_gone_from : (edges : Edges) (a b : ℕ) (p p2 : List (Option ℕ)) → IsMerged a b p p2 → a ≢ b → (y : ℕ) → edges_between edges p2 b y ≡ 0
between_gone_from edges a b p p2 m ne y =
    counted edges p2 b y ∙ count_none (joins p2 b y) (once (set.items edges)) (λ e. rw (m.blocks e.0, block_gone a b (at p e.0) ne) refl)

pub between_gone_onto : (edges : Edges) (a b : ℕ) (p p2 : List (Option ℕ)) → IsMerged a b p p2 → a ≢ b → (x : ℕ) → edges_between edges p2 x b ≡ 0
between_gone_onto edges a b p p2 m ne x =
    counted edges p2 x b ∙ count_none (joins p2 x b) (once (set.items edges)) (λ e.
    rw (m.blocks e.1, block_gone a b (at p e.1) ne) (and_none (is_this x (at p2 e.0))))

count_mono : (p q : ℕ × ℕ → Bool) (zs : List (ℕ × ℕ)) → ((e : ℕ × ℕ) → p e ≡ true → q e ≡ true) → count_by p zs ≤ count_by q zs
count_mono p q [] h = omega arith
count_mono p q (z ∷ zs) h =
    let rest = count_mono p q zs h in
    let a = count_cons p z zs in
    let b = count_cons q z zs in
    let c = bit_most (p z) (q z) (h z) in
    omega (arith, rest, a, b, c)
  where
    bit_most : (x y : Bool) → (x ≡ true → y ≡ true) → bit_of x ≤ bit_of y
    bit_most true y k = (let e : bit_of y ≡ 1 = ap bit_of (k refl) in omega (arith, e))
    bit_most false y k = omega arith

and_true_false : (a b : Bool) → a ≡ b → b ≡ ((a && true) || false)
and_true_false true true e = refl
and_true_false true false e = absurd (cc)
and_true_false false true e = absurd (cc)
and_true_false false false e = refl

-- no more edges lead from one block to another than there are
pub between_most : (edges : Edges) (block : List (Option ℕ)) (x y : ℕ) → edges_between edges block x y ≤ set.len edges
between_most edges block x y =
    let zero_len = set.len-empty edge_cmp in
    let all = len_more (λ e. true) set.empty (once (set.items edges)) (once_distinct (set.items edges)) (λ k h g. set.contains-empty edge_cmp k) edges (λ k.
    and_true_false (list_any (eq k) (once (set.items edges))) (set.contains edges k) (once_any k (set.items edges) ∙ sym (set.contains-items edges k))
    ∙ sym (ap (λ b. (list_any (eq k) (once (set.items edges)) && true) || b) (set.contains-empty edge_cmp k))) in
    let some = counted edges block x y in
    let most = count_mono (joins block x y) (λ e. true) (once (set.items edges)) (λ e h. refl) in
    omega (arith, all, some, most, zero_len)
