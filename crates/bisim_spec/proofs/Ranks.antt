-- In a graph without rings each node has a rank that rises along edges: how many nodes lead to it.
use Rattle.std.proofs.Common.{◌≡◌, ℕ, ◌+◌, ◌<◌, List, [], ◌∷◌, ◌++◌, Option, IsTrue, refl, arith, false}
use Rattle.std.specs.Prelude.{nat_eq}
use Rattle.std.proofs.lemmas.Bool.{false_from_ne_true}
use Rattle.std.proofs.lemmas.Bool.Decides.{Decides-eqb}
use Rattle.std.proofs.lemmas.List.{length-append}
use Rattle.graph_spec.specs.Shapes.{Shape, IsParent, IsShape}
use Rattle.graph_spec.proofs.WalkLemmas.{leads_on}
use Rattle.bisim_spec.specs.Below.{count_below}
use Rattle.bisim_spec.specs.Bisimilarity.{node_count, Bisim}
use Rattle.bisim_spec.specs.Partitions.{Agrees}
use Rattle.bisim_spec.specs.Stability.{Stable, Minimal}
use Rattle.bisim_spec.specs.Reach.{reach, Acyclic}
use Rattle.bisim_spec.proofs.BelowLaws.{count_strict}
use Rattle.bisim_spec.proofs.Bisimilar.{some_of}
use Rattle.bisim_spec.proofs.Stable.{stable_within}
use Rattle.bisim_spec.proofs.MergeableBlocks.{related_together}
use Rattle.bisim_spec.proofs.Settled.{bisim_bisimulation}
use Rattle.bisim_spec.proofs.Reached.{within_walk, reach_step, reach_start}

-- no edge's beginning is reached from its end
pub unreached_back : (s : Shape) → IsShape s → Acyclic s → (p u : ℕ) → IsTrue (s.edge p u) → reach s (nat_eq u) p ≡ false
unreached_back s shape acyclic p u e = false_from_ne_true (reach s (nat_eq u) p) (λ t.
    let w = within_walk s shape s.size u p (shape.onto p u e) t in
    let l = some_of (s.label u) (shape.onto p u e) in
    let alone = acyclic.alone u (w.first ∷ (w.rest ++ l.0 ∷ [])) (leads_on s u w.first w.rest p u l.0 w.leads e l.1) in
    let long = length-append w.rest (l.0 ∷ []) in
    absurd (omega (arith, alone, long)))

-- how many nodes lead to this one, itself included
abbrev pub rank : Shape → ℕ → ℕ
rank s u = count_below s.size (λ x. reach s (nat_eq x) u)

pub rank_rises : (s : Shape) → IsShape s → Acyclic s → (p u : ℕ) → IsParent s p u → rank s p < rank s u
rank_rises s shape acyclic p u e =
    count_strict s.size (λ x. reach s (nat_eq x) p) (λ x. reach s (nat_eq x) u)
    (λ x l h. reach_step s shape (nat_eq x) p u h e) u (shape.below u (shape.onto p u e))
    (unreached_back s shape acyclic p u e) (reach_start s (nat_eq u) u ((Decides-eqb u u).1 refl))

-- In a graph without rings a stable partition of which no two blocks can be merged is full bisimilarity.
pub acyclic_full : (s : Shape) (block : List (Option ℕ)) → IsShape s → Acyclic s → Stable s block → Minimal s block → Agrees s block (Bisim s)
acyclic_full s block shape acyclic st min = record {
  partition = st.partition;
  related = stable_within s block st (node_count s);
  grouped = λ u v nu nv r. related_together s block (Bisim s) (rank s) st min (bisim_bisimulation s shape) (rank_rises s shape acyclic) (rank s u + 1) u v (omega arith) r;
}
