-- The support of a block to itself, which goes over first when two blocks become one.
use Rattle.std.proofs.Common.{◌≡◌, ◌≢◌, ◌⊎◌, ℕ, ◌+◌, ◌<◌, ◌≤◌, ◌^◌, List, Option, IsSome, is_some, sym, ◌∙◌, ap, arith, inl, inr, true, false, cond, refl}
use Rattle.std.specs.Prelude.{nat_eq, ◌&&◌}
use Rattle.std.proofs.lemmas.Bool.Decides.{eqb_tells}
use Rattle.std.specs.FinSet as set
use Rattle.graph_spec.specs.Graphs.{Graph}
use Rattle.bisim_spec.specs.Stability.{merged}
use Rattle.one_spec.specs.EdgeCounts.{AreEdgeCounts}
use Rattle.one_spec.proofs.SetLists.{between_within, between_most}
use Rattle.quotient_draft.specs.Drafts.{is_pair}
use Rattle.one_merge.specs.Merged.{with_column, with_loop, merged_support, HasGraph}
use Rattle.one_merge.proofs.Columns.{same, other, Which, goes, stays, else_, which, column_gone, column_here, column_there}
use Rattle.one_merge.proofs.MergedSupports.{row_gone, row_here, row_there, merged_is, parents_few, children_few, parent_live, child_live}

on : (c : ℕ) → is_pair (c, c) (c, c) ≡ true
on c = ap (λ t. t && t) (same c)

off : (x y c : ℕ) → (x ≢ c) ⊎ (y ≢ c) → is_pair (x, y) (c, c) ≡ false
off x y c (inl n) = ap (λ t. t && nat_eq y c) (other x c n)
off x y c (inr n) = elim (eqb_tells x c) [
  | inl t ↦ ap (λ u. u && nat_eq y c) t.0 ∙ other y c n
  | inr f ↦ ap (λ u. u && nat_eq y c) f.0
]

loop_gone : (a b : ℕ) (s : ℕ → ℕ → ℕ) → with_loop a b s b b ≡ 0
loop_gone a b s = ap (λ t. cond t 0 (cond (is_pair (b, b) (a, a)) (s a a + s b b) (s b b))) (on b)

loop_here : (a b : ℕ) (s : ℕ → ℕ → ℕ) → a ≢ b → with_loop a b s a a ≡ s a a + s b b
loop_here a b s ne =
    ap (λ t. cond t 0 (cond (is_pair (a, a) (a, a)) (s a a + s b b) (s a a))) (off a a b (inl ne)) ∙ ap (λ t. cond t (s a a + s b b) (s a a)) (on a)

loop_there : (a b : ℕ) (s : ℕ → ℕ → ℕ) (x y : ℕ) → (x ≢ a) ⊎ (y ≢ a) → (x ≢ b) ⊎ (y ≢ b) → with_loop a b s x y ≡ s x y
loop_there a b s x y na nb =
    ap (λ t. cond t 0 (cond (is_pair (x, y) (a, a)) (s a a + s b b) (s x y))) (off x y b nb) ∙ ap (λ t. cond t (s a a + s b b) (s x y)) (off x y a na)

-- where b has no support to itself, all supports stay
pub loop_none : (a b : ℕ) (s : ℕ → ℕ → ℕ) (x y : ℕ) → a ≢ b → s b b ≡ 0 → s x y ≡ with_loop a b s x y
loop_none a b s x y ne none = by (which a b x) (which a b y)
  where
    by : Which a b x → Which a b y → s x y ≡ with_loop a b s x y
    by (goes e) (goes f) = rw (e, f) (none ∙ sym (loop_gone a b s))
    by (goes e) (stays f) = rw (e, f) (sym (loop_there a b s b a (inl (λ k. ne (sym k))) (inr ne)))
    by (goes e) (else_ ma mb) = rw (e) (sym (loop_there a b s b y (inr ma) (inr mb)))
    by (stays e) (goes f) = rw (e, f) (sym (loop_there a b s a b (inr (λ k. ne (sym k))) (inl ne)))
    by (stays e) (stays f) = rw (e, f) (let h = loop_here a b s ne in omega (arith, h, none))
    by (stays e) (else_ ma mb) = rw (e) (sym (loop_there a b s a y (inr ma) (inr mb)))
    by (else_ na nb) _ = sym (loop_there a b s x y (inl na) (inl nb))

-- the two writes together
pub loop_set : (a b n : ℕ) (s mid new : ℕ → ℕ → ℕ) → n ≡ s a a + s b b → ((x y : ℕ) → mid x y ≡ cond (is_pair (x, y) (a, a)) n (s x y))
    → ((x y : ℕ) → new x y ≡ cond (is_pair (x, y) (b, b)) 0 (mid x y)) → (x y : ℕ) → new x y ≡ with_loop a b s x y
loop_set a b n s mid new is first second x y =
    second x y ∙ ap (λ k. cond (is_pair (x, y) (b, b)) 0 k) (first x y ∙ ap (λ k. cond (is_pair (x, y) (a, a)) k (s x y)) is)

loop_less : (a b : ℕ) (s : ℕ → ℕ → ℕ) (x y : ℕ) → (x ≢ a) ⊎ (y ≢ a) → 0 < with_loop a b s x y → 0 < s x y
loop_less a b s x y na more = elim (eqb_tells x b) [
  | inl t ↦ elim (eqb_tells y b) [
    | inl u ↦ absurd (let z : with_loop a b s x y ≡ 0 = rw (t.1, u.1) (loop_gone a b s) in omega (arith, more, z))
    | inr f ↦ (let z = loop_there a b s x y na (inr f.1) in omega (arith, more, z))
  ]
  | inr f ↦ (let z = loop_there a b s x y na (inl f.1) in omega (arith, more, z))
]

-- the merged supports are the same
pub loop_merged : (a b : ℕ) (s t : ℕ → ℕ → ℕ) (x y : ℕ) → a ≢ b → ((u v : ℕ) → t u v ≡ with_loop a b s u v) → merged_support a b t x y ≡ merged_support a b s x y
loop_merged a b s t x y ne is = by (which a b x) (which a b y)
  where
    first : t a a ≡ s a a + s b b
    first = is a a ∙ loop_here a b s ne

    last : t b b ≡ 0
    last = is b b ∙ loop_gone a b s

    by : Which a b x → Which a b y → merged_support a b t x y ≡ merged_support a b s x y
    by (goes e) k = rw (e) (row_gone a b (with_column a b t) y ∙ sym (row_gone a b (with_column a b s) y))
    by (stays e) (goes f) = rw (e, f) (
        let r = row_here a b (with_column a b t) b ne in
        let q = row_here a b (with_column a b s) b ne in
        let u = column_gone a b t a in
        let v = column_gone a b t b in
        let w = column_gone a b s a in
        let z = column_gone a b s b in
        omega (arith, r, q, u, v, w, z))
    by (stays e) (stays f) = rw (e, f) (
        let r = row_here a b (with_column a b t) a ne in
        let q = row_here a b (with_column a b s) a ne in
        let u = column_here a b t a ne in
        let v = column_here a b t b ne in
        let w = column_here a b s a ne in
        let z = column_here a b s b ne in
        let ab = is a b ∙ loop_there a b s a b (inr (λ k. ne (sym k))) (inl ne) in
        let ba = is b a ∙ loop_there a b s b a (inl (λ k. ne (sym k))) (inr ne) in
        omega (arith, r, q, u, v, w, z, first, last, ab, ba))
    by (stays e) (else_ ma mb) = rw (e) (
        let r = row_here a b (with_column a b t) y ne in
        let q = row_here a b (with_column a b s) y ne in
        let u = column_there a b t a y ma mb in
        let v = column_there a b t b y ma mb in
        let w = column_there a b s a y ma mb in
        let z = column_there a b s b y ma mb in
        let ay = is a y ∙ loop_there a b s a y (inr ma) (inr mb) in
        let by = is b y ∙ loop_there a b s b y (inr ma) (inr mb) in
        omega (arith, r, q, u, v, w, z, ay, by))
    by (else_ na nb) (goes f) = rw (f) (
        let r = row_there a b (with_column a b t) x b na nb in
        let q = row_there a b (with_column a b s) x b na nb in
        let u = column_gone a b t x in
        let v = column_gone a b s x in
        omega (arith, r, q, u, v))
    by (else_ na nb) (stays f) = rw (f) (
        let r = row_there a b (with_column a b t) x a na nb in
        let q = row_there a b (with_column a b s) x a na nb in
        let u = column_here a b t x ne in
        let v = column_here a b s x ne in
        let xa = is x a ∙ loop_there a b s x a (inl na) (inl nb) in
        let xb = is x b ∙ loop_there a b s x b (inl na) (inl nb) in
        omega (arith, r, q, u, v, xa, xb))
    by (else_ na nb) (else_ ma mb) =
        row_there a b (with_column a b t) x y na nb ∙ column_there a b t x y ma mb ∙ is x y ∙ loop_there a b s x y (inl na) (inl nb)
        ∙ sym (row_there a b (with_column a b s) x y na nb ∙ column_there a b s x y ma mb)

-- the four supports of the two are few together
four_few : (g : Graph) (p : List (Option ℕ)) (s : ℕ → ℕ → ℕ) (a b : ℕ) → AreEdgeCounts g p s → set.len g.edges ≤ 2 ^ 30 → a ≢ b → (s a a + s a b) + (s b a + s b b) ≤ 2 ^ 30
four_few g p s a b supports few ne =
    let whole = between_within g.edges a b p (merged a b p) (merged_is a b p) ne in
    let most = between_most g.edges (merged a b p) a a in
    let aa = supports.each a a in
    let ab = supports.each a b in
    let ba = supports.each b a in
    let bb = supports.each b b in
    omega (arith, whole, most, aa, ab, ba, bb, few)

pub loops_few : (g : Graph) (p : List (Option ℕ)) (s : ℕ → ℕ → ℕ) (a b : ℕ) → AreEdgeCounts g p s → set.len g.edges ≤ 2 ^ 30 → a ≢ b → s a a + s b b ≤ 2 ^ 30
loops_few g p s a b supports few ne = let four = four_few g p s a b supports few ne in omega (arith, four)

pub parents_few_after : (g : Graph) (p : List (Option ℕ)) (s t : ℕ → ℕ → ℕ) (a b x : ℕ) → AreEdgeCounts g p s → set.len g.edges ≤ 2 ^ 30 → a ≢ b
    → ((u v : ℕ) → t u v ≡ with_loop a b s u v) → t x a + t x b ≤ 2 ^ 30
parents_few_after g p s t a b x supports few ne is = by (which a b x)
  where
    by : Which a b x → t x a + t x b ≤ 2 ^ 30
    by (goes e) = rw (e) (
        let h = parents_few g p s a b b supports few ne in
        let ba = is b a ∙ loop_there a b s b a (inl (λ k. ne (sym k))) (inr ne) in
        let bb = is b b ∙ loop_gone a b s in
        omega (arith, h, ba, bb))
    by (stays e) = rw (e) (
        let four = four_few g p s a b supports few ne in
        let aa = is a a ∙ loop_here a b s ne in
        let ab = is a b ∙ loop_there a b s a b (inr (λ k. ne (sym k))) (inl ne) in
        omega (arith, four, aa, ab))
    by (else_ na nb) = (
        let h = parents_few g p s a b x supports few ne in
        let xa = is x a ∙ loop_there a b s x a (inl na) (inl nb) in
        let xb = is x b ∙ loop_there a b s x b (inl na) (inl nb) in
        omega (arith, h, xa, xb))

pub children_few_after : (g : Graph) (p : List (Option ℕ)) (s t mid : ℕ → ℕ → ℕ) (a b y : ℕ) → AreEdgeCounts g p s → set.len g.edges ≤ 2 ^ 30 → a ≢ b
    → ((u v : ℕ) → t u v ≡ with_loop a b s u v) → ((x z : ℕ) → mid x z ≡ with_column a b t x z) → mid a y + mid b y ≤ 2 ^ 30
children_few_after g p s t mid a b y supports few ne loops is = by (which a b y)
  where
    by : Which a b y → mid a y + mid b y ≤ 2 ^ 30
    by (goes e) = rw (e) (
        let u = is a b ∙ column_gone a b t a in
        let v = is b b ∙ column_gone a b t b in
        omega (arith, u, v))
    by (stays e) = rw (e) (
        let four = four_few g p s a b supports few ne in
        let u = is a a ∙ column_here a b t a ne in
        let v = is b a ∙ column_here a b t b ne in
        let aa = loops a a ∙ loop_here a b s ne in
        let bb = loops b b ∙ loop_gone a b s in
        let ab = loops a b ∙ loop_there a b s a b (inr (λ k. ne (sym k))) (inl ne) in
        let ba = loops b a ∙ loop_there a b s b a (inl (λ k. ne (sym k))) (inr ne) in
        omega (arith, four, u, v, aa, ab, ba, bb))
    by (else_ na nb) = (
        let h = children_few g p s (with_column a b s) a b y supports few ne (λ _ _. refl) in
        let u = is a y ∙ column_there a b t a y na nb in
        let v = is b y ∙ column_there a b t b y na nb in
        let ay = loops a y ∙ loop_there a b s a y (inr na) (inr nb) in
        let by = loops b y ∙ loop_there a b s b y (inr na) (inr nb) in
        let k = column_there a b s a y na nb in
        let z = column_there a b s b y na nb in
        omega (arith, h, u, v, ay, by, k, z))

-- blocks next to b have labels
pub parent_live_after : (p : List (Option ℕ)) (labels : ℕ → Option ℕ) (s t : ℕ → ℕ → ℕ) (a b x : ℕ) → HasGraph p labels s → a ≢ b → ((u v : ℕ) → t u v ≡ with_loop a b s u v)
    → 0 < t x b → IsSome (labels x)
parent_live_after p labels s t a b x h ne is more =
    let e = is x b in
    let some : 0 < with_loop a b s x b = omega (arith, more, e) in
    parent_live p labels s x b h (loop_less a b s x b (inr (λ k. ne (sym k))) some)

pub child_live_after : (p : List (Option ℕ)) (labels : ℕ → Option ℕ) (s t mid : ℕ → ℕ → ℕ) (a b y : ℕ) → HasGraph p labels s → IsSome (labels a) → a ≢ b
    → ((u v : ℕ) → t u v ≡ with_loop a b s u v) → ((x z : ℕ) → mid x z ≡ with_column a b t x z) → 0 < mid b y → IsSome (labels y)
child_live_after p labels s t mid a b y h live ne loops is more = by (which a b y)
  where
    by : Which a b y → IsSome (labels y)
    by (goes e) = absurd (let u = is b y in let z = ap (with_column a b t b) e ∙ column_gone a b t b in omega (arith, more, u, z))
    by (stays e) = ap (λ n. is_some (labels n)) e ∙ live
    by (else_ na nb) = (
        let u = is b y ∙ column_there a b t b y na nb ∙ loops b y in
        let some : 0 < with_loop a b s b y = omega (arith, more, u) in
        child_live p labels s b y h (loop_less a b s b y (inr na) some))
