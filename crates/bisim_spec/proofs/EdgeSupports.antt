-- A pair of blocks has support exactly where an edge joins them, and so an index graph has an edge exactly there.
use Rattle.std.proofs.Common.{◌≡◌, ℕ, ◌<◌, ◌↔◌, List, Option, Some, IsTrue, IsSome, sym, ◌∙◌, ap, arith, inl, inr, true, Bool, true≢false, ltb-true, lt-ltb}
use Rattle.std.specs.Prelude.{is_some, option_and_then, slice_get}
use Rattle.std.specs.FinSet as set
use Rattle.std.proofs.lemmas.Bool.{and_parts, and_from}
use Rattle.graph_spec.specs.Graphs.{Graph, Edges}
use Rattle.graph_spec.specs.Shapes.{IsNode, IsShape, shape_of}
use Rattle.graph_spec.specs.Members.{at, is_this}
use Rattle.bisim_spec.specs.Supports.{Adjacent, joins, edges_between}
use Rattle.bisim_spec.specs.IndexGraphs.{View, ViewFits, support_at, shape_of_view}
use Rattle.bisim_spec.proofs.Bisimilar.{none_or_some, is_some_at}
use Rattle.bisim_spec.proofs.Together.{block_below}
use Rattle.bisim_spec.proofs.EdgeSets.{kept, member_of, some_len}
use Rattle.bisim_spec.proofs.Moves.{block_get, block_from}

-- an edge that passes, where some are counted
counted_get : (p : ℕ × ℕ → Bool) (edges : Edges) → 0 < set.len (set.retain edges p) → (e : ℕ × ℕ) × (set.contains edges e ≡ true) × (p e ≡ true)
counted_get p edges h =
    let e = member_of (set.retain edges p) h in
    let both = and_parts (set.contains edges e.0) (p e.0) (sym (kept edges p e.0) ∙ e.1) in
    (e.0, both.0, both.1)

counted_from : (p : ℕ × ℕ → Bool) (edges : Edges) (e : ℕ × ℕ) → set.contains edges e ≡ true → p e ≡ true → 0 < set.len (set.retain edges p)
counted_from p edges e h k = some_len (set.retain edges p) e (kept edges p e ∙ and_from (set.contains edges e) (p e) h k)

pub support_adjacent : (g : Graph) (block : List (Option ℕ)) (a b : ℕ) → 0 < edges_between g.edges block a b → Adjacent (shape_of g) block a b
support_adjacent g block a b h =
    let e = counted_get (joins block a b) g.edges h in
    let p = and_parts (is_this a (at block e.0.0)) (is_this b (at block e.0.1)) e.2 in
    (e.0.0, e.0.1, e.1, block_get a (at block e.0.0) p.0, block_get b (at block e.0.1) p.1)

pub adjacent_support : (g : Graph) (block : List (Option ℕ)) (a b : ℕ) → Adjacent (shape_of g) block a b → 0 < edges_between g.edges block a b
adjacent_support g block a b (u, v, e, hu, hv) =
    counted_from (joins block a b) g.edges (u, v) e
    (and_from (is_this a (at block u)) (is_this b (at block v)) (block_from a (at block u) hu) (block_from b (at block v) hv))

pub view_edges : (texts : List (List ℕ)) (g : Graph) (v : View) → ViewFits g v → (a b : ℕ) → IsTrue ((shape_of_view texts v).edge a b) ↔ Adjacent (shape_of g) v.block_of a b
view_edges texts g v fits a b =
    let same = fits.supports a b in (
      λ e.
          let some : 0 < support_at v.supports a b = ltb-true 0 (support_at v.supports a b) e in
          support_adjacent g v.block_of a b (omega (arith, same, some)),
      λ j. lt-ltb 0 (support_at v.supports a b) (let some = adjacent_support g v.block_of a b j in omega (arith, same, some)),
    )

-- the index graph's nodes are below its size, and its edges join nodes
pub view_shape : (g : Graph) (v : View) → ViewFits g v → IsShape (shape_of_view g.seen v)
view_shape g v fits = record {
  below = λ b h. block_below v.labels b (labelled b h);
  from = λ a b e. let j = (view_edges g.seen g v fits a b).0 e in member j.0 a j.3;
  onto = λ a b e. let j = (view_edges g.seen g v fits a b).0 e in member j.1 b j.4;
}
  where
    labelled : (b : ℕ) → IsNode (shape_of_view g.seen v) b → IsSome (at v.labels b)
    labelled b h = elim (none_or_some (at v.labels b)) [
      | inl e ↦ absurd (true≢false (sym h ∙ ap (λ o. is_some (option_and_then (λ l. slice_get g.seen l) o)) e))
      | inr (l, e) ↦ is_some_at (at v.labels b) l e
    ]

    member : (n b : ℕ) → at v.block_of n ≡ Some b → IsNode (shape_of_view g.seen v) b
    member n b e =
        let l = fits.labelled n b e in
        is_some_at ((shape_of_view g.seen v).label b) l.1 (ap (option_and_then (λ l. slice_get g.seen l)) l.2 ∙ l.3)
