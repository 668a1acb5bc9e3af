-- An edge that comes, and an edge that goes: supports while blocks stay.
use Rattle.std.proofs.Common.{◌≡◌, ℕ, ◌+◌, ◌<◌, ◌≤◌, ◌^◌, List, Option, Some, ◌∙◌, ap, arith, true, false}
use Rattle.std.specs.Prelude.{nat_eq, ◌&&◌}
use Rattle.std.specs.FinSet as set
use Rattle.graph_spec.specs.Graphs.{Graph, has_edge}
use Rattle.graph_spec.specs.Changes.{with_edge, without_edge}
use Rattle.graph_spec.specs.Members.{at, is_this}
use Rattle.bisim_spec.proofs.Moves.{between_linked, between_unlinked, between_most}
use Rattle.bisim_spec.proofs.BelowLaws.{bit_of}
use Rattle.bisim_spec.proofs.EdgeSupports.{adjacent_support}
use Rattle.one_spec.specs.EdgeCounts.{AreEdgeCounts}

-- the two nodes have these blocks
pub record AreAt (block : List (Option ℕ)) (u v a b : ℕ) : Type 0 where
  pub from : at block u ≡ Some a
  pub onto : at block v ≡ Some b

joins_ends : (block : List (Option ℕ)) (u v a b x y : ℕ) → AreAt block u v a b → (is_this x (at block u) && is_this y (at block v)) ≡ (nat_eq x a && nat_eq y b)
joins_ends block u v a b x y ends = ap (λ o. is_this x o && is_this y (at block v)) ends.from ∙ ap (λ o. nat_eq x a && is_this y o) ends.onto

pub counts_linked : (g : Graph) (u v a b : ℕ) (block : List (Option ℕ)) (support support2 : ℕ → ℕ → ℕ) → has_edge g u v ≡ false → AreEdgeCounts g block support
    → AreAt block u v a b → ((x y : ℕ) → support2 x y ≡ support x y + bit_of (nat_eq x a && nat_eq y b)) → AreEdgeCounts (with_edge g u v) block support2
counts_linked g u v a b block support support2 absent counts ends raised = record {
  each = λ x y.
      let one = ap bit_of (joins_ends block u v a b x y ends) in
      let law = between_linked g.edges u v block x y absent in
      let shown = raised x y in
      let base = counts.each x y in
      omega (arith, one, law, shown, base);
}

pub counts_unlinked : (g : Graph) (u v a b : ℕ) (block : List (Option ℕ)) (support support2 : ℕ → ℕ → ℕ) → has_edge g u v ≡ true → AreEdgeCounts g block support
    → AreAt block u v a b → ((x y : ℕ) → support2 x y + bit_of (nat_eq x a && nat_eq y b) ≡ support x y) → AreEdgeCounts (without_edge g u v) block support2
counts_unlinked g u v a b block support support2 present counts ends lowered = record {
  each = λ x y.
      let one = ap bit_of (joins_ends block u v a b x y ends) in
      let law = between_unlinked g.edges u v block x y present in
      let shown = lowered x y in
      let base = counts.each x y in
      omega (arith, one, law, shown, base);
}

-- one edge more is allowed
pub count_few : (g : Graph) (block : List (Option ℕ)) (support : ℕ → ℕ → ℕ) (a b : ℕ) → AreEdgeCounts g block support → set.len g.edges ≤ 2 ^ 30 → support a b < 2 ^ 31
count_few g block support a b counts few =
    let count = counts.each a b in
    let most = between_most g.edges block a b in
    omega (arith, count, most, few)

-- the edge that goes is counted
pub count_some : (g : Graph) (block : List (Option ℕ)) (support : ℕ → ℕ → ℕ) (u v a b : ℕ) → AreEdgeCounts g block support → has_edge g u v ≡ true → AreAt block u v a b → 0 < support a b
count_some g block support u v a b counts present ends =
    let count = counts.each a b in
    let some = adjacent_support g block a b (u, v, present, ends.from, ends.onto) in
    omega (arith, count, some)
