-- A summary that fits a graph has as many blocks, and as many pairs with support, as the graph's own nodes and edges tell.
use Rattle.std.proofs.Common.{◌≡◌, ℕ, suc, ◌<◌, length, Some, IsTrue, is_some, refl, sym, ◌∙◌, ap, arith, inl, inr, true, false, Bool, not, ◌&&◌, true≢false}
use Rattle.std.specs.Prelude.{nat_lt}
use Rattle.std.specs.FinMap as table
use Rattle.std.proofs.lemmas.Bool.{cases_lt, cases_Bool, and_parts, and_from, not-true}
use Rattle.graph_spec.specs.Graphs.{Graph, label_of}
use Rattle.graph_spec.specs.Shapes.{IsNode, shape_of}
use Rattle.index_api.specs.declared.kinds.Via.{Via}
use Rattle.graph_spec.specs.Members.{at}
use Rattle.block_partition.specs.LabelledPartitions.{block_count}
use Rattle.bisim_spec.specs.Below.{any_below}
use Rattle.bisim_spec.specs.Partitions.{Together, Agrees}
use Rattle.bisim_spec.specs.Supports.{Adjacent}
use Rattle.bisim_spec.specs.IndexGraphs.{ViewFits, support_at}
use Rattle.bisim_spec.proofs.BelowLaws.{any_get, any_from, none_get, least}
use Rattle.bisim_spec.proofs.Bisimilar.{some_of, is_some_at}
use Rattle.bisim_spec.proofs.Together.{block_below}
use Rattle.bisim_spec.proofs.Moves.{block_get, block_from}
use Rattle.bisim_spec.proofs.EdgeSupports.{support_adjacent, adjacent_support}
use Rattle.quotient.specs.Quotients.{Quotient, view_of, pair_count}
use Rattle.extent_report.specs.ListedBlocks.{is_related, is_first, are_adjacent, block_total, adjacent_total, size_line}
use Rattle.extent_report.specs.Summaries.{IsSummaryOf}
use Rattle.extent_report.specs.MemberChains.{is_in}
use Rattle.extent_report.proofs.ListedSummaries.{allocated_below}
use Rattle.extent_report.proofs.PairCounts.{count_into, taken_places, pairs_into, pairs_over, kept_key, kept_some}

module _ (g : Graph) (q : Quotient) (r : ℕ → ℕ → Bool) (fits : ViewFits g (view_of q)) (agrees : Agrees (shape_of g) q.blocks.block_of (λ u v. IsTrue (r u v))) where
  -- n is the first node of the block a
  record Begins (n a : ℕ) : Type 0 where
    first_is : is_first (shape_of g) r n ≡ true
    block_is : at q.blocks.block_of n ≡ Some a

  node_of : (n : ℕ) → is_first (shape_of g) r n ≡ true → IsNode (shape_of g) n
  node_of n h = (and_parts (is_some (label_of g n)) (not (any_below n (is_related (shape_of g) r n))) h).0

  member_node : (n a : ℕ) → at q.blocks.block_of n ≡ Some a → IsNode (shape_of g) n
  member_node n a e = agrees.partition.only n (is_some_at (at q.blocks.block_of n) a e)

  member_below : (n a : ℕ) → at q.blocks.block_of n ≡ Some a → n < length g.allocated
  member_below n a e = allocated_below g n (member_node n a e)

  -- members of one block are related
  alike : (u v a : ℕ) → at q.blocks.block_of u ≡ Some a → at q.blocks.block_of v ≡ Some a → is_related (shape_of g) r u v ≡ true
  alike u v a e f = and_from (is_some (label_of g v)) (r u v) (member_node v a f) (agrees.related u v (a, e, f))

  -- and related nodes are members of one block
  member_by : (u v a : ℕ) → IsNode (shape_of g) u → at q.blocks.block_of u ≡ Some a → is_related (shape_of g) r u v ≡ true → at q.blocks.block_of v ≡ Some a
  member_by u v a node e h =
      let both = and_parts (is_some (label_of g v)) (r u v) h in
      let t : Together q.blocks.block_of u v = agrees.grouped u v node both.0 both.1 in
      let x = t.1 in
      let y = t.2 in
      cc

  one_block : (u a b : ℕ) → Begins u a → Begins u b → a ≡ b
  one_block u a b x y = let e = x.block_is in let f = y.block_is in cc

  not_before : (u v a : ℕ) → Begins u a → Begins v a → u < v → ⊥
  not_before u v a x y l =
      let none = not-true (any_below v (is_related (shape_of g) r v)) (and_parts (is_some (label_of g v)) (not (any_below v (is_related (shape_of g) r v))) y.first_is).1 in
      true≢false (sym (alike v u a y.block_is x.block_is) ∙ none_get v (is_related (shape_of g) r v) none u l)

  one_first : (u v a : ℕ) → Begins u a → Begins v a → u ≡ v
  one_first u v a x y = elim (cases_lt u v) [
    | inl below ↦ absurd (not_before u v a x y below)
    | inr past ↦ elim (cases_lt v u) [
      | inl above ↦ absurd (not_before v u a y x above)
      | inr same ↦ omega (arith, past, same)
    ]
  ]

  -- the block that a first node begins
  begun : (n : ℕ) → is_first (shape_of g) r n ≡ true → (a : ℕ) × Begins n a
  begun n h = let a = some_of (at q.blocks.block_of n) (agrees.partition.live n (node_of n h)) in (a.0, record { first_is = h; block_is = a.1 })

  of_is : (a n : ℕ) → is_in q.blocks.block_of a n ≡ true → at q.blocks.block_of n ≡ Some a
  of_is a n h = block_get a (at q.blocks.block_of n) h

  -- the first node of a block with a member
  beginning : (n a : ℕ) → at q.blocks.block_of n ≡ Some a → (w : ℕ) × (w < length g.allocated) × (is_first (shape_of g) r w ≡ true) × Begins w a
  beginning n a e =
      let w = least (suc n) (is_in q.blocks.block_of a) (any_from (suc n) (is_in q.blocks.block_of a) n (omega arith) (block_from a (at q.blocks.block_of n) e)) in
      let f = of_is a w.0 w.2 in
      let none : any_below w.0 (is_related (shape_of g) r w.0) ≡ false = elim (cases_Bool (any_below w.0 (is_related (shape_of g) r w.0))) [
        | inl some ↦ absurd (
            let k = any_get w.0 (is_related (shape_of g) r w.0) some in
            let m = member_by w.0 k.0 a (member_node w.0 a f) f k.2 in
            true≢false (sym (block_from a (at q.blocks.block_of k.0) m) ∙ none_get w.0 (is_in q.blocks.block_of a) w.3 k.0 k.1))
        | inr off ↦ off
      ] in
      let is : is_first (shape_of g) r w.0 ≡ true = and_from (is_some (label_of g w.0)) (not (any_below w.0 (is_related (shape_of g) r w.0))) (member_node w.0 a f) (ap not none) in
      (w.0, member_below w.0 a f, is, record { first_is = is; block_is = f })

  -- as many blocks
  pub as_many_blocks : block_total (shape_of g) r ≡ block_count q.blocks
  as_many_blocks =
      let live : ℕ → Bool = λ b. is_some (at q.blocks.labels b) in
      let most = count_into (length g.allocated) (length q.blocks.labels) (is_first (shape_of g) r) live Begins one_first (λ n l h.
      let a = begun n h in
      let t = fits.labelled n a.0 a.1.block_is in
      let there = is_some_at (at q.blocks.labels a.0) t.0 t.2 in
      (a.0, block_below q.blocks.labels a.0 there, there, a.1)) in
      let least_many = count_into (length q.blocks.labels) (length g.allocated) live (is_first (shape_of g) r) (λ b n. Begins n b) (λ a b n x y. one_block n a b x y) (λ b l h.
      let n = fits.inhabited b h in
      beginning n.0 b n.1) in
      let places = taken_places q.blocks.labels in
      omega (arith, most, least_many, places)

  -- first nodes whose blocks are adjacent
  adjacent_by : (u v a b : ℕ) → Begins u a → Begins v b → are_adjacent (shape_of g) r u v ≡ true → Adjacent (shape_of g) q.blocks.block_of a b
  adjacent_by u v a b x y h =
      let to : ℕ → Bool = λ m. any_below (length g.allocated) (λ k. is_related (shape_of g) r v k && (shape_of g).edge m k) in
      let m = any_get (length g.allocated) (λ m. is_related (shape_of g) r u m && to m) h in
      let p = and_parts (is_related (shape_of g) r u m.0) (to m.0) m.2 in
      let k = any_get (length g.allocated) (λ k. is_related (shape_of g) r v k && (shape_of g).edge m.0 k) p.1 in
      let s = and_parts (is_related (shape_of g) r v k.0) ((shape_of g).edge m.0 k.0) k.2 in
      (m.0, k.0, s.1, member_by u m.0 a (node_of u x.first_is) x.block_is p.0, member_by v k.0 b (node_of v y.first_is) y.block_is s.0)

  by_adjacent : (u v a b : ℕ) → Begins u a → Begins v b → Adjacent (shape_of g) q.blocks.block_of a b → are_adjacent (shape_of g) r u v ≡ true
  by_adjacent u v a b x y (m, k, e, em, ek) =
      let to : ℕ → Bool = λ m. any_below (length g.allocated) (λ k. is_related (shape_of g) r v k && (shape_of g).edge m k) in
      let inner = any_from (length g.allocated) (λ k. is_related (shape_of g) r v k && (shape_of g).edge m k) k (member_below k b ek)
      (and_from (is_related (shape_of g) r v k) ((shape_of g).edge m k) (alike v k b y.block_is ek) e) in
      any_from (length g.allocated) (λ m. is_related (shape_of g) r u m && to m) m (member_below m a em)
      (and_from (is_related (shape_of g) r u m) (to m) (alike u m a x.block_is em) inner)

  pub as_many_pairs : adjacent_total (shape_of g) r ≡ pair_count q.supports
  as_many_pairs =
      let n = length g.allocated in
      let t = table.retain_keys q.supports (λ p. nat_lt 0 (support_at q.supports p.0 p.1)) in
      let p : ℕ → ℕ → Bool = λ u v. is_first (shape_of g) r u && (is_first (shape_of g) r v && are_adjacent (shape_of g) r u v) in
      let most = pairs_into n n p Begins one_first t (λ u v l k h.
      let x = and_parts (is_first (shape_of g) r u) (is_first (shape_of g) r v && are_adjacent (shape_of g) r u v) h in
      let y = and_parts (is_first (shape_of g) r v) (are_adjacent (shape_of g) r u v) x.1 in
      let a = begun u x.0 in
      let b = begun v y.0 in
      let some = adjacent_support g q.blocks.block_of a.0 b.0 (adjacent_by u v a.0 b.0 a.1 b.1 y.1) in
      let same = fits.supports a.0 b.0 in
      (a.0, b.0, kept_key q.supports a.0 b.0 (omega (arith, same, some)), a.1, b.1)) in
      let least_many = pairs_over (table.len t) n n p Begins one_block t refl (λ a b h.
      let some = kept_some q.supports a b h in
      let same = fits.supports a b in
      let j = support_adjacent g q.blocks.block_of a b (omega (arith, same, some)) in
      let u = beginning j.0 a j.3 in
      let v = beginning j.1 b j.4 in (
        u.0,
        v.0,
        u.1,
        v.1,
        and_from (is_first (shape_of g) r u.0) (is_first (shape_of g) r v.0 && are_adjacent (shape_of g) r u.0 v.0) u.2
            (and_from (is_first (shape_of g) r v.0) (are_adjacent (shape_of g) r u.0 v.0) v.2 (by_adjacent u.0 v.0 a b u.3 v.3 j)),
        u.3,
        v.3,
      )) in
      omega (arith, most, least_many)

-- the line of the size
pub listed_size : (g : Graph) (q : Quotient) (r : ℕ → ℕ → Bool) (via : Via) → IsSummaryOf g r q
    → size_line via (block_count q.blocks) (pair_count q.supports) ≡ size_line via (block_total (shape_of g) r) (adjacent_total (shape_of g) r)
listed_size g q r via h =
    ap (λ b. size_line via b (pair_count q.supports)) (sym (as_many_blocks g q r h.fits h.agrees))
    ∙ ap (λ s. size_line via (block_total (shape_of g) r) s) (sym (as_many_pairs g q r h.fits h.agrees))
