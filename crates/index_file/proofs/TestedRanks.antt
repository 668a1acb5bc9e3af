-- The ranks of the blocks of an equivalence.
use Rattle.std.proofs.Common.{◌≡◌, ℕ, zero, suc, ◌<◌, ◌≤◌, List, [], ◌∷◌, ◌++◌, length, Some, None, IsSome, is_some, Bool, true, false, ◌&&◌, not, true≢false, refl, sym, ◌∙◌, ap, subst, arith, inl, inr, nat_eq, length-append, ◌⊎◌}
use Rattle.std.specs.Prelude.{if◌then◌else◌}
use Rattle.std.proofs.lemmas.Bool.{cases_lt, cases_Bool, and_parts, eq-eqb, ne_eqb}
use Rattle.std.proofs.lemmas.List.{get_or_append_left, get_or_push, get_or_past}
use Rattle.graph_spec.specs.Shapes.{Shape, IsNode, IsShape}
use Rattle.graph_spec.specs.Members.{at}
use Rattle.bisim_spec.specs.Below.{any_below, count_below}
use Rattle.bisim_spec.specs.Partitions.{Agrees}
use Rattle.bisim_spec.proofs.BelowLaws as below
use Rattle.bisim_spec.proofs.BelowLaws.{any_from, any_get, none_get, bit_of}
use Rattle.extent_report.specs.ListedBlocks.{DecidesEach, is_related, is_first}
use Rattle.index_file.specs.WrittenFiles.{rank_of}
use Rattle.index_file.specs.Readings.{next_rank}
use Rattle.index_file.specs.WholeFiles.{block_at, blocks_below, blocks_by, IsEquivalence}
use Rattle.index_file.proofs.RankedBlocks.{least_is}
use Rattle.index_file.proofs.ReadViewLaws.{next_more}

-- the ranks of the nodes below n
abbrev pub ranks_below : ℕ → Shape → (ℕ → ℕ → Bool) → List ℕ
ranks_below zero s r = []
ranks_below (suc n) s r = if is_some (s.label n) then ranks_below n s r ++ rank_of s r n ∷ [] else ranks_below n s r

pub ranks_live : (n : ℕ) (s : Shape) (r : ℕ → ℕ → Bool) → IsNode s n → ranks_below (suc n) s r ≡ ranks_below n s r ++ rank_of s r n ∷ []
ranks_live n s r on = rw on refl

pub ranks_gone : (n : ℕ) (s : Shape) (r : ℕ → ℕ → Bool) → is_some (s.label n) ≡ false → ranks_below (suc n) s r ≡ ranks_below n s r
ranks_gone n s r off = rw off refl

count_rises : (p : ℕ → Bool) (a b : ℕ) → a < b → p a ≡ true → count_below a p < count_below b p
count_rises p a zero l h = absurd (omega (arith, l))
count_rises p a (suc b) l h = elim (cases_lt a b) [
  | inl low ↦ (let r = count_rises p a b low h in omega (arith, r))
  | inr past ↦ (let same : a ≡ b = omega (arith, l, past) in let one : bit_of (p b) ≡ 1 = ap bit_of (ap p (sym same) ∙ h) in let c = ap (λ k. count_below k p) same in omega (arith, one, c))
]

module _ (s : Shape) (r : ℕ → ℕ → Bool) (e : IsEquivalence s r) where
  related_from : (n m : ℕ) → IsNode s m → r n m ≡ true → is_related s r n m ≡ true
  related_from n m node h = ap (λ x. x && r n m) node ∙ h

  -- the first node of the block of n
  record First (n : ℕ) : Type 0 where
    node : ℕ
    low : node ≤ n
    live : IsNode s node
    related : r n node ≡ true
    none : any_below node (is_related s r n) ≡ false

  first_of : (n : ℕ) → IsNode s n → First n
  first_of n node =
      let w = below.least (suc n) (is_related s r n) (any_from (suc n) (is_related s r n) n (omega arith) (related_from n n node (e.reflexive n node))) in
      let p = and_parts (is_some (s.label w.0)) (r n w.0) w.2 in
      let l = w.1 in
      record { node = w.0; low = omega (arith, l); live = p.0; related = p.1; none = w.3 }

  -- no node of the block is less
  not_less : (n m : ℕ) (f : First n) → IsNode s m → r n m ≡ true → f.node ≤ m
  not_less n m f node h = elim (cases_lt m f.node) [
    | inl low ↦ absurd (true≢false (sym (related_from n m node h) ∙ none_get f.node (is_related s r n) f.none m low))
    | inr past ↦ past
  ]

  rank_is : (n : ℕ) (f : First n) → rank_of s r n ≡ count_below f.node (is_first s r)
  rank_is n f = ap (λ k. count_below k (is_first s r)) (least_is n f.node (is_related s r n) (related_from n f.node f.live f.related) f.none f.low)

  first_node : (n : ℕ) → IsNode s n → (f : First n) → is_first s r f.node ≡ true
  first_node n node f = ap (λ x. x && not (any_below f.node (is_related s r f.node))) f.live ∙ ap not (none_less)
    where
      none_less : any_below f.node (is_related s r f.node) ≡ false
      none_less = elim (cases_Bool (any_below f.node (is_related s r f.node))) [
        | inl on ↦
            (let k = any_get f.node (is_related s r f.node) on in
            let p = and_parts (is_some (s.label k.0)) (r f.node k.0) k.2 in
            let back = not_less n k.0 f p.0 (e.transitive n f.node k.0 node f.live p.0 f.related p.1) in
            let l = k.1 in
            absurd (omega (arith, l, back)))
        | inr off ↦ off
      ]

  -- nodes of one block have one rank, and others have others
  rank_same : (n m : ℕ) → IsNode s n → IsNode s m → r n m ≡ true → rank_of s r n ≡ rank_of s r m
  rank_same n m nn nm h =
      let f = first_of n nn in
      let g = first_of m nm in
      let low = not_less n g.node f g.live (e.transitive n m g.node nn nm g.live h g.related) in
      let high = not_less m f.node g f.live (e.transitive m n f.node nm nn f.live (e.symmetric n m nn nm h) f.related) in
      let same : f.node ≡ g.node = omega (arith, low, high) in
      rank_is n f ∙ ap (λ k. count_below k (is_first s r)) same ∙ sym (rank_is m g)

  rank_only : (n m : ℕ) → IsNode s n → IsNode s m → rank_of s r n ≡ rank_of s r m → r n m ≡ true
  rank_only n m nn nm h =
      let f = first_of n nn in
      let g = first_of m nm in
      let counts : count_below f.node (is_first s r) ≡ count_below g.node (is_first s r) = sym (rank_is n f) ∙ h ∙ rank_is m g in
      let same : f.node ≡ g.node = by f g counts in
      e.transitive n f.node m nn f.live nm f.related
      (e.symmetric m f.node nm f.live (subst (λ k. r m k ≡ true) (sym same) g.related))
    where
      by : (f : First n) (g : First m) → count_below f.node (is_first s r) ≡ count_below g.node (is_first s r) → f.node ≡ g.node
      by f g counts = elim (cases_lt f.node g.node) [
        | inl low ↦ absurd (let c = count_rises (is_first s r) f.node g.node low (first_node n nn f) in omega (arith, c, counts))
        | inr past ↦ elim (cases_lt g.node f.node) [
          | inl high ↦ absurd (let c = count_rises (is_first s r) g.node f.node high (first_node m nm g) in omega (arith, c, counts))
          | inr other ↦ omega (arith, past, other)
        ]
      ]

  -- a rank is at most the number of blocks that were met
  rank_low : (n : ℕ) → IsNode s n → rank_of s r n ≤ count_below n (is_first s r)
  rank_low n node =
      let f = first_of n node in
      let c = rank_is n f in
      elim (cases_lt f.node n) [
        | inl low ↦ (let d = count_rises (is_first s r) f.node n low (first_node n node f) in omega (arith, c, d))
        | inr past ↦ (let l = f.low in let same : f.node ≡ n = omega (arith, past, l) in let d = ap (λ k. count_below k (is_first s r)) same in omega (arith, c, d))
      ]

  -- and it is the next one where the node is the first of its block
  rank_new : (n : ℕ) → IsNode s n → is_first s r n ≡ true → rank_of s r n ≡ count_below n (is_first s r)
  rank_new n node h =
      let f = first_of n node in
      elim (cases_lt f.node n) [
        | inl low ↦ absurd (
            let off = (and_parts (is_some (s.label n)) (not (any_below n (is_related s r n))) h).1 in
            let on = any_from n (is_related s r n) f.node low (related_from n f.node f.live f.related) in
            true≢false (sym off ∙ ap not on))
        | inr past ↦ (let l = f.low in let same : f.node ≡ n = omega (arith, past, l) in rank_is n f ∙ ap (λ k. count_below k (is_first s r)) same)
      ]

  rank_old : (n : ℕ) → IsNode s n → is_first s r n ≡ false → rank_of s r n < count_below n (is_first s r)
  rank_old n node h =
      let f = first_of n node in
      let c = rank_is n f in
      elim (cases_lt f.node n) [
        | inl low ↦ (let d = count_rises (is_first s r) f.node n low (first_node n node f) in omega (arith, c, d))
        | inr past ↦ absurd (
            let l = f.low in
            let same : f.node ≡ n = omega (arith, past, l) in
            true≢false (sym (ap (is_first s r) (sym same) ∙ first_node n node f) ∙ h))
      ]

  -- the greatest number that the next rank may be
  next_step : (n c x : ℕ) (rs : List ℕ) → next_rank 0 rs ≡ c → next_rank 0 (rs ++ x ∷ []) ≡ (if nat_eq x c then suc c else c)
  next_step n c x rs h = next_more 0 rs x ∙ ap (λ m. if nat_eq x m then suc m else m) h

  pub next_is : (n : ℕ) → next_rank 0 (ranks_below n s r) ≡ count_below n (is_first s r)
  next_is zero = refl
  next_is (suc n) = elim (cases_Bool (is_some (s.label n))) [
    | inr off ↦
        (let none : bit_of (is_first s r n) ≡ 0 = ap bit_of (ap (λ x. x && not (any_below n (is_related s r n))) off) in
        let before = next_is n in
        ap (next_rank 0) (ranks_gone n s r off) ∙ omega (arith, none, before))
    | inl on ↦ elim (cases_Bool (is_first s r n)) [
      | inl first ↦
          (let c = count_below n (is_first s r) in
          let one : bit_of (is_first s r n) ≡ 1 = ap bit_of first in
          ap (next_rank 0) (ranks_live n s r on) ∙ next_step n c (rank_of s r n) (ranks_below n s r) (next_is n)
          ∙ ap (λ b. if b then suc c else c) (eq-eqb (rank_of s r n) c (rank_new n on first)) ∙ omega (arith, one))
      | inr old ↦
          (let c = count_below n (is_first s r) in
          let none : bit_of (is_first s r n) ≡ 0 = ap bit_of old in
          let less = rank_old n on old in
          ap (next_rank 0) (ranks_live n s r on) ∙ next_step n c (rank_of s r n) (ranks_below n s r) (next_is n)
          ∙ ap (λ b. if b then suc c else c) (ne_eqb (rank_of s r n) c (λ z. omega (arith, z, less))) ∙ omega (arith, none))
    ]
  ]

  pub rank_fits : (n : ℕ) → IsNode s n → rank_of s r n ≤ next_rank 0 (ranks_below n s r)
  rank_fits n node = let a = rank_low n node in let b = next_is n in omega (arith, a, b)

-- ---- the list of blocks

pub blocks_long : (n : ℕ) (s : Shape) (r : ℕ → ℕ → Bool) → length (blocks_below n s r) ≡ n
blocks_long zero s r = refl
blocks_long (suc n) s r = let l = length-append (blocks_below n s r) (block_at s r n ∷ []) in let b = blocks_long n s r in omega (arith, l, b)

block_below : (n m : ℕ) (s : Shape) (r : ℕ → ℕ → Bool) → m < n → at (blocks_below n s r) m ≡ block_at s r m
block_below zero m s r l = absurd (omega (arith, l))
block_below (suc n) m s r l = elim (cases_lt m n) [
  | inl low ↦ (let c = blocks_long n s r in get_or_append_left (blocks_below n s r) (block_at s r n ∷ []) None m (omega (arith, low, c)) ∙ block_below n m s r low)
  | inr past ↦
      (let c = blocks_long n s r in
      let same : m ≡ n = omega (arith, l, past) in
      get_or_push (blocks_below n s r) (block_at s r n) None m (omega (arith, c, same)) ∙ ap (block_at s r) (sym same))
]

pub block_is : (s : Shape) (r : ℕ → ℕ → Bool) (n : ℕ) → IsShape s → at (blocks_by s r) n ≡ block_at s r n
block_is s r n shape = elim (cases_lt n s.size) [
  | inl low ↦ block_below s.size n s r low
  | inr past ↦ (let c = blocks_long s.size s r in get_or_past (blocks_by s r) n None (omega (arith, c, past)) ∙ sym (none past (cases_Bool (is_some (s.label n)))))
]
  where
    none : s.size ≤ n → (is_some (s.label n) ≡ true) ⊎ (is_some (s.label n) ≡ false) → block_at s r n ≡ None
    none past (inl on) = absurd (let l = shape.below n on in omega (arith, l, past))
    none past (inr off) = rw off refl

pub block_some : (s : Shape) (r : ℕ → ℕ → Bool) (n : ℕ) → IsNode s n → block_at s r n ≡ Some (rank_of s r n)
block_some s r n node = rw node refl

pub block_none : (s : Shape) (r : ℕ → ℕ → Bool) (n : ℕ) → is_some (s.label n) ≡ false → block_at s r n ≡ None
block_none s r n off = rw off refl

block_live : (s : Shape) (r : ℕ → ℕ → Bool) (n : ℕ) → IsShape s → IsNode s n → at (blocks_by s r) n ≡ Some (rank_of s r n)
block_live s r n shape node = block_is s r n shape ∙ block_some s r n node

block_only : (s : Shape) (r : ℕ → ℕ → Bool) (n : ℕ) → IsShape s → IsSome (at (blocks_by s r) n) → IsNode s n
block_only s r n shape h = elim (cases_Bool (is_some (s.label n))) [
  | inl on ↦ on
  | inr off ↦ absurd (true≢false (sym h ∙ ap is_some (block_is s r n shape) ∙ (rw off refl)))
]

some_one : (a b : ℕ) → Some a ≡ Some b → a ≡ b
some_one a b e = cc

-- it groups the nodes as the test does
pub blocks_agree : (s : Shape) (r : ℕ → ℕ → Bool) (R : ℕ → ℕ → Type 0) → IsShape s → IsEquivalence s r → DecidesEach r R → Agrees s (blocks_by s r) R
blocks_agree s r R shape e d = record {
  partition = record {
    live = λ n h. ap is_some (block_live s r n shape h);
    only = λ n h. block_only s r n shape h;
  };
  related = λ u v t.
      let nu = block_only s r u shape (ap is_some t.1) in
      let nv = block_only s r v shape (ap is_some t.2) in
      let a = some_one (rank_of s r u) t.0 (sym (block_live s r u shape nu) ∙ t.1) in
      let b = some_one (rank_of s r v) t.0 (sym (block_live s r v shape nv) ∙ t.2) in
      (d u v).0 (rank_only s r e u v nu nv (a ∙ sym b));
  grouped = λ u v nu nv h. (
    rank_of s r u,
    block_live s r u shape nu,
    block_live s r v shape nv ∙ ap Some (sym (rank_same s r e u v nu nv ((d u v).1 h))),
  );
}
