-- A node without edges, which comes or goes: it counts for no support, and nothing is within reach of it.
use Rattle.std.proofs.Common.{◌≡◌, ◌≢◌, ℕ, zero, suc, List, Option, refl, sym, ◌∙◌, ap, inl, inr, true, false, cond, true≢false}
use Rattle.std.specs.Prelude.{nat_eq, ◌&&◌}
use Rattle.std.specs.FinSet as set
use Rattle.std.proofs.lemmas.Bool.{cases_Bool}
use Rattle.std.proofs.lemmas.Bool.Decides.{eqb_tells, Decides-eqb}
use Rattle.graph_spec.specs.Graphs.{Graph, Edges}
use Rattle.graph_spec.specs.Members.{at, is_this}
use Rattle.graph_spec.specs.Shapes.{Shape}
use Rattle.bisim_spec.specs.Reach.{within_distance}
use Rattle.bisim_spec.specs.Supports.{joins, edges_between}
use Rattle.bisim_spec.proofs.EdgeSets.{kept, same_len}
use Rattle.bisim_spec.proofs.Reached.{within_cases}
use Rattle.one_spec.specs.EdgeCounts.{AreEdgeCounts}

-- nodes other than n have the blocks that they had
pub record IsPut (n : ℕ) (o : Option ℕ) (block block2 : List (Option ℕ)) : Type 0 where
  pub at_each : (m : ℕ) → at block2 m ≡ cond (nat_eq m n) o (at block m)

pub put_same : (n : ℕ) (o : Option ℕ) (block block2 : List (Option ℕ)) → IsPut n o block block2 → at block2 n ≡ o
put_same n o block block2 h = elim (eqb_tells n n) [ inl s ↦ h.at_each n ∙ ap (λ t. cond t o (at block n)) s.0 | inr d ↦ absurd (d.1 refl) ]

pub put_other : (n : ℕ) (o : Option ℕ) (block block2 : List (Option ℕ)) → IsPut n o block block2 → (m : ℕ) → m ≢ n → at block2 m ≡ at block m
put_other n o block block2 h m apart = elim (eqb_tells m n) [ inl s ↦ absurd (apart s.1) | inr d ↦ h.at_each m ∙ ap (λ t. cond t o (at block m)) d.0 ]

-- no edge begins or ends at the node
pub record IsLone (edges : Edges) (n : ℕ) : Type 0 where
  pub from : (k : ℕ × ℕ) → set.contains edges k ≡ true → k.0 ≢ n
  pub onto : (k : ℕ × ℕ) → set.contains edges k ≡ true → k.1 ≢ n

-- such a node counts for no support
between_lone : (edges : Edges) (n : ℕ) (o : Option ℕ) (block block2 : List (Option ℕ)) (x y : ℕ) → IsPut n o block block2 → IsLone edges n
    → edges_between edges block2 x y ≡ edges_between edges block x y
between_lone edges n o block block2 x y moved lone = same_len (set.retain edges (joins block2 x y)) (set.retain edges (joins block x y)) (λ k. elim (cases_Bool (set.contains edges k)) [
  | inl on ↦ (
      kept edges (joins block2 x y) k
      ∙ ap (λ t. set.contains edges k && (is_this x t && is_this y (at block2 k.1))) (put_other n o block block2 moved k.0 (lone.from k on))
      ∙ ap (λ t. set.contains edges k && (is_this x (at block k.0) && is_this y t)) (put_other n o block block2 moved k.1 (lone.onto k on))
      ∙ sym (kept edges (joins block x y) k))
  | inr off ↦ (
      kept edges (joins block2 x y) k ∙ ap (λ t. t && joins block2 x y k) off
      ∙ sym (kept edges (joins block x y) k ∙ ap (λ t. t && joins block x y k) off))
])

pub counts_lone : (g g2 : Graph) (n : ℕ) (o : Option ℕ) (block block2 : List (Option ℕ)) (support support2 : ℕ → ℕ → ℕ) → g2.edges ≡ g.edges → AreEdgeCounts g block support
    → IsPut n o block block2 → IsLone g.edges n → ((x y : ℕ) → support2 x y ≡ support x y) → AreEdgeCounts g2 block2 support2
counts_lone g g2 n o block block2 support support2 edges counts moved lone same = record {
  each = λ x y. same x y ∙ counts.each x y ∙ sym (between_lone g.edges n o block block2 x y moved lone) ∙ ap (λ es. edges_between es block2 x y) (sym edges);
}

-- no edge leads on from it, so only it is affected
pub within_lone : (s : Shape) (n i m : ℕ) → ((c : ℕ) → s.edge n c ≡ false) → within_distance s (λ x. nat_eq x n) i m ≡ true → m ≡ n
within_lone s n zero m none h = (Decides-eqb m n).0 h
within_lone s n (suc i) m none h = elim (within_cases s (λ x. nat_eq x n) i m h) [
  | inl e ↦ within_lone s n i m none e
  | inr (p, a, e) ↦ absurd (let same = within_lone s n i p none a in true≢false (sym e ∙ ap (λ q. s.edge q m) same ∙ none m))
]
