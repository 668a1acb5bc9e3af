-- The supports of a partition in which two blocks are one.
use Rattle.std.proofs.Common.{◌≡◌, ◌≢◌, ℕ, ◌+◌, ◌<◌, ◌≤◌, ◌^◌, List, Option, Some, None, IsSome, IsTrue, is_some, refl, sym, ◌∙◌, ap, arith, inl, inr, true, cond}
use Rattle.std.specs.Prelude.{nat_eq, nat_lt}
use Rattle.std.proofs.lemmas.Bool.{cases_lt}
use Rattle.std.proofs.lemmas.Bool.Decides.{eqb_tells, Decides-ltb}
use Rattle.std.specs.FinSet as set
use Rattle.graph_spec.specs.Members.{at, has, is_this, Lists}
use Rattle.graph_spec.specs.Graphs.{Graph}
use Rattle.graph_spec.specs.Shapes.{Shape}
use Rattle.bisim_spec.specs.Stability.{merged, merged_at}
use Rattle.bisim_spec.specs.Supports.{edges_between}
use Rattle.bisim_spec.proofs.Bisimilar.{none_or_some}
use Rattle.bisim_spec.proofs.EdgeSupports.{support_adjacent}
use Rattle.bisim_spec.proofs.Together.{at_merged}
use Rattle.one_spec.specs.Merges.{IsMergeablePair, IsMerged}
use Rattle.one_spec.specs.BlockLabels.{BlocksHaveLabels}
use Rattle.one_spec.specs.EdgeCounts.{AreEdgeCounts}
use Rattle.one_spec.specs.Viewed.{IsViewed}
use Rattle.one_spec.proofs.LabelledBlocks.{labelled_merged}
use Rattle.one_spec.proofs.MergedPairs.{merged_stable, unmerged}
use Rattle.one_spec.proofs.SetLists.{between_onto, between_from, between_within, between_gone_from, between_gone_onto, between_other, between_most}
use Rattle.one_merge.specs.MergeTests.{renamed, AreMergeable}
use Rattle.one_merge.specs.Merged.{with_column, with_row, merged_support, HasGraph}
use Rattle.one_merge.proofs.Columns.{flipped, Which, goes, stays, else_, which, column_gone, column_here, column_there}

pub row_gone : (a b : ℕ) (s : ℕ → ℕ → ℕ) (y : ℕ) → with_row a b s b y ≡ 0
row_gone a b s y = column_gone a b (flipped s) y

pub row_here : (a b : ℕ) (s : ℕ → ℕ → ℕ) (y : ℕ) → a ≢ b → with_row a b s a y ≡ s a y + s b y
row_here a b s y ne = column_here a b (flipped s) y ne

pub row_there : (a b : ℕ) (s : ℕ → ℕ → ℕ) (x y : ℕ) → x ≢ a → x ≢ b → with_row a b s x y ≡ s x y
row_there a b s x y na nb = column_there a b (flipped s) y x na nb

abbrev pub merged_is : (a b : ℕ) (p : List (Option ℕ)) → IsMerged a b p (merged a b p)
merged_is a b p = record { blocks = at_merged a b p }

-- supports that become one are few together
pub parents_few : (g : Graph) (p : List (Option ℕ)) (s : ℕ → ℕ → ℕ) (a b x : ℕ) → AreEdgeCounts g p s → set.len g.edges ≤ 2 ^ 30 → a ≢ b → s x a + s x b ≤ 2 ^ 30
parents_few g p s a b x supports few ne = by (which a b x)
  where
    by : Which a b x → s x a + s x b ≤ 2 ^ 30
    by (goes e) = rw (e) (
        let whole = between_within g.edges a b p (merged a b p) (merged_is a b p) ne in
        let most = between_most g.edges (merged a b p) a a in
        let u = supports.each b a in
        let v = supports.each b b in
        omega (arith, whole, most, u, v, few))
    by (stays e) = rw (e) (
        let whole = between_within g.edges a b p (merged a b p) (merged_is a b p) ne in
        let most = between_most g.edges (merged a b p) a a in
        let u = supports.each a a in
        let v = supports.each a b in
        omega (arith, whole, most, u, v, few))
    by (else_ na nb) =
        let whole = between_onto g.edges a b p (merged a b p) (merged_is a b p) ne x na nb in
        let most = between_most g.edges (merged a b p) x a in
        let u = supports.each x a in
        let v = supports.each x b in
        omega (arith, whole, most, u, v, few)

pub children_few : (g : Graph) (p : List (Option ℕ)) (s mid : ℕ → ℕ → ℕ) (a b y : ℕ) → AreEdgeCounts g p s → set.len g.edges ≤ 2 ^ 30 → a ≢ b
    → ((x z : ℕ) → mid x z ≡ with_column a b s x z) → mid a y + mid b y ≤ 2 ^ 30
children_few g p s mid a b y supports few ne is = by (which a b y)
  where
    by : Which a b y → mid a y + mid b y ≤ 2 ^ 30
    by (goes e) = rw (e) (
        let u = is a b in
        let v = is b b in
        let k = column_gone a b s a in
        let z = column_gone a b s b in
        omega (arith, u, v, k, z))
    by (stays e) = rw (e) (
        let whole = between_within g.edges a b p (merged a b p) (merged_is a b p) ne in
        let most = between_most g.edges (merged a b p) a a in
        let u = is a a in
        let v = is b a in
        let k = column_here a b s a ne in
        let z = column_here a b s b ne in
        let aa = supports.each a a in
        let ab = supports.each a b in
        let ba = supports.each b a in
        let bb = supports.each b b in
        omega (arith, whole, most, u, v, k, z, aa, ab, ba, bb, few))
    by (else_ na nb) =
        let whole = between_from g.edges a b p (merged a b p) (merged_is a b p) ne y na nb in
        let most = between_most g.edges (merged a b p) a y in
        let u = is a y in
        let v = is b y in
        let k = column_there a b s a y na nb in
        let z = column_there a b s b y na nb in
        let ay = supports.each a y in
        let by = supports.each b y in
        omega (arith, whole, most, u, v, k, z, ay, by, few)

-- blocks next to others have labels
pub parent_live : (p : List (Option ℕ)) (labels : ℕ → Option ℕ) (s : ℕ → ℕ → ℕ) (x y : ℕ) → HasGraph p labels s → 0 < s x y → IsSome (labels x)
parent_live p labels s x y h more =
    let e = h.supports.each x y in
    let some : 0 < edges_between h.graph.edges p x y = omega (arith, more, e) in
    let j = support_adjacent h.graph p x y some in
    h.live j.0 x j.3

pub child_live : (p : List (Option ℕ)) (labels : ℕ → Option ℕ) (s : ℕ → ℕ → ℕ) (x y : ℕ) → HasGraph p labels s → 0 < s x y → IsSome (labels y)
child_live p labels s x y h more =
    let e = h.supports.each x y in
    let some : 0 < edges_between h.graph.edges p x y = omega (arith, more, e) in
    let j = support_adjacent h.graph p x y some in
    h.live j.1 y j.4

-- the two steps together
pub two_steps : (a b : ℕ) (s mid new : ℕ → ℕ → ℕ) → ((x y : ℕ) → mid x y ≡ with_column a b s x y) → ((x y : ℕ) → new x y ≡ with_row a b mid x y) → (x y : ℕ) → new x y ≡ merged_support a b s x y
two_steps a b s mid new first second x y =
    second x y
    ∙ ap (λ n. cond (nat_eq x b) 0 (cond (nat_eq x a) n (mid x y))) (ap (λ n. n + mid b y) (first a y) ∙ ap (λ n. with_column a b s a y + n) (first b y))
    ∙ ap (λ n. cond (nat_eq x b) 0 (cond (nat_eq x a) (with_column a b s a y + with_column a b s b y) n)) (first x y)

-- the supports are those of the merged partition
pub supports_merged : (g : Graph) (p p2 : List (Option ℕ)) (s s2 : ℕ → ℕ → ℕ) (a b : ℕ) → a ≢ b → IsMerged a b p p2 → ((x y : ℕ) → s2 x y ≡ merged_support a b s x y)
    → AreEdgeCounts g p s → AreEdgeCounts g p2 s2
supports_merged g p p2 s s2 a b ne m is supports = record { each = λ x y. is x y ∙ by x y (which a b x) (which a b y) }
  where
    by : (x y : ℕ) → Which a b x → Which a b y → merged_support a b s x y ≡ edges_between g.edges p2 x y
    by x y (goes e) k = rw (e) (row_gone a b (with_column a b s) y ∙ sym (between_gone_from g.edges a b p p2 m ne y))
    by x y (stays e) (goes f) = rw (e, f) (
        let r = row_here a b (with_column a b s) b ne in
        let u = column_gone a b s a in
        let v = column_gone a b s b in
        let z = between_gone_onto g.edges a b p p2 m ne a in
        omega (arith, r, u, v, z))
    by x y (stays e) (stays f) = rw (e, f) (
        let r = row_here a b (with_column a b s) a ne in
        let u = column_here a b s a ne in
        let v = column_here a b s b ne in
        let z = between_within g.edges a b p p2 m ne in
        let aa = supports.each a a in
        let ab = supports.each a b in
        let ba = supports.each b a in
        let bb = supports.each b b in
        omega (arith, r, u, v, z, aa, ab, ba, bb))
    by x y (stays e) (else_ na nb) = rw (e) (
        let r = row_here a b (with_column a b s) y ne in
        let u = column_there a b s a y na nb in
        let v = column_there a b s b y na nb in
        let z = between_from g.edges a b p p2 m ne y na nb in
        let ay = supports.each a y in
        let by = supports.each b y in
        omega (arith, r, u, v, z, ay, by))
    by x y (else_ na nb) (goes f) = rw (f) (
        let r = row_there a b (with_column a b s) x b na nb in
        let u = column_gone a b s x in
        let z = between_gone_onto g.edges a b p p2 m ne x in
        omega (arith, r, u, z))
    by x y (else_ na nb) (stays f) = rw (f) (
        let r = row_there a b (with_column a b s) x a na nb in
        let u = column_here a b s x ne in
        let z = between_onto g.edges a b p p2 m ne x na nb in
        let xa = supports.each x a in
        let xb = supports.each x b in
        omega (arith, r, u, z, xa, xb))
    by x y (else_ na nb) (else_ ma mb) =
        row_there a b (with_column a b s) x y na nb ∙ column_there a b s x y ma mb ∙ supports.each x y ∙ sym (between_other g.edges a b p p2 m x y na nb ma mb)

-- members that are put
pub merged_by : (a b : ℕ) (p p2 : List (Option ℕ)) (list : List ℕ) → Lists (λ n. is_this b (at p n)) list → ((n : ℕ) → at p2 n ≡ cond (has list n) (Some a) (at p n)) → IsMerged a b p p2
merged_by a b p p2 list lists is = record { blocks = λ n. is n ∙ ap (λ t. cond t (Some a) (at p n)) (lists.members n) ∙ by (at p n) }
  where
    by : (o : Option ℕ) → cond (is_this b o) (Some a) o ≡ merged_at a b o
    by None = refl
    by (Some c) = elim (eqb_tells c b) [
      | inl t ↦ rw (t.1) (elim (eqb_tells b b) [ inl k ↦ rw (k.0) refl | inr k ↦ absurd (k.1 refl) ])
      | inr f ↦ rw (f.0) (elim (eqb_tells b c) [ inl k ↦ absurd (f.1 (sym k.1)) | inr k ↦ rw (k.0) refl ])
    ]

pub member_some : (p : List (Option ℕ)) (b : ℕ) (list : List ℕ) (n : ℕ) → Lists (λ n. is_this b (at p n)) list → IsTrue (has list n) → IsSome (at p n)
member_some p b list n lists h = by (at p n) (sym (lists.members n) ∙ h)
  where
    by : (o : Option ℕ) → is_this b o ≡ true → is_some o ≡ true
    by None k = absurd (cc)
    by (Some c) k = refl

-- the graph stays
pub graph_merged : (p p2 : List (Option ℕ)) (labels : ℕ → Option ℕ) (s s2 : ℕ → ℕ → ℕ) (a b : ℕ) → a ≢ b → IsSome (labels a) → IsMerged a b p p2
    → ((x y : ℕ) → s2 x y ≡ merged_support a b s x y) → HasGraph p labels s → HasGraph p2 labels s2
graph_merged p p2 labels s s2 a b ne live m is h = record {
  graph = h.graph;
  supports = supports_merged h.graph p p2 s s2 a b ne m is h.supports;
  few = h.few;
  live = λ n c e. elim (eqb_tells c a) [
    | inl t ↦ ap (λ k. is_some (labels k)) t.1 ∙ live
    | inr f ↦ h.live n c (unmerged a b p p2 c n m f.1 e)
  ];
}

-- which block a node was in
pub came_from : (a b : ℕ) (p p2 : List (Option ℕ)) (n c : ℕ) → IsMerged a b p p2 → at p2 n ≡ Some c → (d : ℕ) × (at p n ≡ Some d) × (renamed a b d ≡ c)
came_from a b p p2 n c m h = elim (none_or_some (at p n)) [
  | inl none ↦ absurd (let f : None ≡ Some c = sym (m.blocks n ∙ ap (merged_at a b) none) ∙ h in cc)
  | inr (d, e) ↦ (
      let f : Some (renamed a b d) ≡ Some c = sym (m.blocks n ∙ ap (merged_at a b) e) ∙ h in
      let g : renamed a b d ≡ c = cc in
      (d, e, g))
]

went_to : (a b : ℕ) (p p2 : List (Option ℕ)) (n d : ℕ) → IsMerged a b p p2 → at p n ≡ Some d → at p2 n ≡ Some (renamed a b d)
went_to a b p p2 n d m e = m.blocks n ∙ ap (merged_at a b) e

renamed_goes : (a b : ℕ) → renamed a b b ≡ a
renamed_goes a b = elim (eqb_tells b b) [ inl t ↦ ap (λ c. cond c a b) t.0 | inr f ↦ absurd (f.1 refl) ]

renamed_else : (a b x : ℕ) → x ≢ b → renamed a b x ≡ x
renamed_else a b x ne = elim (eqb_tells x b) [ inl t ↦ absurd (ne t.1) | inr f ↦ ap (λ c. cond c a x) f.0 ]

-- each node has the label of its block
pub block_labels_merged : (p p2 : List (Option ℕ)) (labels node_labels : ℕ → Option ℕ) (a b : ℕ) → labels a ≡ labels b → IsMerged a b p p2 → BlocksHaveLabels p labels node_labels → BlocksHaveLabels p2 labels node_labels
block_labels_merged p p2 labels node_labels a b alike m block_labels = record {
  is = λ n c h.
      let k = came_from a b p p2 n c m h in
      let d = block_labels.is n k.0 k.1 in
      (d.0, sym (ap labels k.2) ∙ same k.0 ∙ d.1, d.2);
}
  where
    same : (d : ℕ) → labels (renamed a b d) ≡ labels d
    same d = elim (eqb_tells d b) [
      | inl t ↦ ap (λ c. labels (cond c a d)) t.0 ∙ alike ∙ sym (ap labels t.1)
      | inr f ↦ ap (λ c. labels (cond c a d)) f.0
    ]

-- where there is support between merged blocks, there was before
column_from : (a b : ℕ) (s : ℕ → ℕ → ℕ) (x y : ℕ) → a ≢ b → 0 < with_column a b s x y → (z : ℕ) × (renamed a b z ≡ y) × (0 < s x z)
column_from a b s x y ne h = by (which a b y)
  where
    sum : 0 < s x a + s x b → (z : ℕ) × (renamed a b z ≡ a) × (0 < s x z)
    sum more = elim (cases_lt 0 (s x a)) [
      | inl some ↦ (a, renamed_else a b a ne, some)
      | inr none ↦ (b, renamed_goes a b, (omega (arith, more, none)))
    ]

    by : Which a b y → (z : ℕ) × (renamed a b z ≡ y) × (0 < s x z)
    by (goes e) = absurd (let z = ap (with_column a b s x) e ∙ column_gone a b s x in omega (arith, h, z))
    by (stays e) = (
        let k = ap (with_column a b s x) e ∙ column_here a b s x ne in
        let more : 0 < s x a + s x b = omega (arith, h, k) in
        let z = sum more in
        (z.0, z.1 ∙ sym e, z.2))
    by (else_ na nb) = (let k = column_there a b s x y na nb in (y, renamed_else a b y nb, (omega (arith, h, k))))

column_into : (a b : ℕ) (s : ℕ → ℕ → ℕ) (x z : ℕ) → a ≢ b → 0 < s x z → 0 < with_column a b s x (renamed a b z)
column_into a b s x z ne h = by (which a b z)
  where
    by : Which a b z → 0 < with_column a b s x (renamed a b z)
    by (goes e) = (
        let k = ap (with_column a b s x) (ap (renamed a b) e ∙ renamed_goes a b) ∙ column_here a b s x ne in
        let f = ap (s x) e in
        omega (arith, h, k, f))
    by (stays e) = (
        let k = ap (with_column a b s x) (ap (renamed a b) e ∙ renamed_else a b a ne) ∙ column_here a b s x ne in
        let f = ap (s x) e in
        omega (arith, h, k, f))
    by (else_ na nb) = (let k = ap (with_column a b s x) (renamed_else a b z nb) ∙ column_there a b s x z na nb in omega (arith, h, k))

-- the tables fit the merged partition
pub viewed_merged : (s : Shape) (p p2 : List (Option ℕ)) (labels : ℕ → Option ℕ) (support support2 : ℕ → ℕ → ℕ) (a b : ℕ) → AreMergeable p labels (λ x y. nat_lt 0 (support x y)) a b
    → IsMerged a b p p2 → ((x y : ℕ) → support2 x y ≡ merged_support a b support x y) → IsViewed s p labels (λ x y. nat_lt 0 (support x y))
    → IsViewed s p2 labels (λ x y. nat_lt 0 (support2 x y))
viewed_merged s p p2 labels support support2 a b mergeable_pair m is v = record {
  shape = v.shape;
  stable = merged_stable s p p2 a b can m;
  labelled = labelled_merged s p p2 labels a b mergeable_pair.label m v.labelled;
  into = λ x y c.
      let u = came_from a b p p2 c.from x m c.from_at in
      let w = came_from a b p p2 c.onto y m c.onto_at in
      let before = v.into u.0 w.0 (record { from = c.from; onto = c.onto; edge = c.edge; from_at = u.1; onto_at = w.1 }) in
      let some = (Decides-ltb 0 (support u.0 w.0)).0 before in
      let one = column_into a b support u.0 w.0 mergeable_pair.apart some in
      let two = column_into a b (flipped (with_column a b support)) (renamed a b w.0) u.0 mergeable_pair.apart one in
      let e = is (renamed a b u.0) (renamed a b w.0) in
      let more : 0 < support2 (renamed a b u.0) (renamed a b w.0) = omega (arith, two, e) in
      sym (ap (λ n. nat_lt 0 (support2 n y)) u.2) ∙ sym (ap (λ n. nat_lt 0 (support2 (renamed a b u.0) n)) w.2) ∙ (Decides-ltb 0 (support2 (renamed a b u.0) (renamed a b w.0))).1 more;
  from = λ x y h.
      let some = (Decides-ltb 0 (support2 x y)).0 h in
      let e = is x y in
      let two : 0 < merged_support a b support x y = omega (arith, some, e) in
      let u = column_from a b (flipped (with_column a b support)) y x mergeable_pair.apart two in
      let w = column_from a b support u.0 y mergeable_pair.apart u.2 in
      let c = v.from u.0 w.0 ((Decides-ltb 0 (support u.0 w.0)).1 w.2) in
      record {
        from = c.from;
        onto = c.onto;
        edge = c.edge;
        from_at = went_to a b p p2 c.from u.0 m c.from_at ∙ ap Some u.1;
        onto_at = went_to a b p p2 c.onto w.0 m c.onto_at ∙ ap Some w.1;
      };
}
  where
    can : IsMergeablePair s p a b
    can = record { apart = mergeable_pair.apart; first = mergeable_pair.first; second = mergeable_pair.second; can = mergeable_pair.can s v }
