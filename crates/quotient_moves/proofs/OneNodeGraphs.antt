-- A graph of one node without edges.
use Rattle.std.proofs.Common.{◌≡◌, ℕ, zero, suc, List, [], ◌∷◌, Option, Some, refl, sym, ◌∙◌, ap, arith, cond, false, true≢false}
use Rattle.std.specs.Prelude.{nat_eq, IsSome, is_some}
use Rattle.std.specs.FinSet as set
use Rattle.graph_spec.specs.Graphs.{Graph, Edges, label_of, edge_cmp}
use Rattle.graph_spec.specs.Members.{at}
use Rattle.graph_spec.specs.Shapes.{shape_of}
use Rattle.bisim_spec.specs.Partitions.{IsPartition}
use Rattle.bisim_spec.specs.Supports.{edges_between}
use Rattle.bisim_spec.proofs.Moves.{between_most}
use Rattle.one_spec.specs.EdgeCounts.{AreEdgeCounts}

later : (n : ℕ) → nat_eq (suc n) 0 ≡ false
later n = grind arith

pub alone : (g : Graph) (t : List ℕ) (b : ℕ) (first block : List (Option ℕ)) → g.allocated ≡ Some t ∷ [] → first ≡ []
    → ((m : ℕ) → at block m ≡ cond (nat_eq m 0) (Some b) (at first m)) → IsPartition (shape_of g) block
alone g t b first block is none moved = record {
  live = λ n h. here n h;
  only = λ n h. there n h;
}
  where
    label_is : (n : ℕ) → label_of g n ≡ label_of (record { allocated = Some t ∷ []; edges = g.edges; seen = g.seen }) n
    label_is n = ap (λ (gs : List (Option (List ℕ))). label_of (record { allocated = gs; edges = g.edges; seen = g.seen }) n) is

    here : (n : ℕ) → IsSome (label_of g n) → IsSome (at block n)
    here zero h = ap is_some (moved zero)
    here (suc n) h = absurd (true≢false (sym h ∙ ap is_some (label_is (suc n))))

    there : (n : ℕ) → IsSome (at block n) → IsSome (label_of g n)
    there zero h = ap is_some (label_is zero)
    there (suc n) h = absurd (true≢false (sym h ∙ ap is_some (moved (suc n) ∙ ap (λ c. cond c (Some b) (at first (suc n))) (later n) ∙ ap (λ (xs : List (Option ℕ)). at xs (suc n)) none)))

no_edges : (edges : Edges) (block : List (Option ℕ)) (x y : ℕ) → edges ≡ set.empty → edges_between edges block x y ≡ 0
no_edges edges block x y none =
    let most = between_most edges block x y in
    let len = ap set.len none ∙ set.len-empty edge_cmp in
    omega (arith, most, len)

pub unsupported : (g : Graph) (first block : List (Option ℕ)) (support : ℕ → ℕ → ℕ) → g.edges ≡ set.empty
    → ((x y : ℕ) → support x y ≡ edges_between set.empty first x y) → AreEdgeCounts g block support
unsupported g first block support none are = record {
  each = λ x y. are x y ∙ no_edges set.empty first x y refl ∙ sym (no_edges g.edges block x y none);
}
