-- Links and unlinks that leave the partition of the 1-index as it is.
use Rattle.std.proofs.Common.{refl, ◌≡◌, ℕ, List, Option, Some, sym, ◌∙◌, ap, inl, inr, false, nat_eq}
use Rattle.std.specs.Prelude.{◌&&◌, ◌||◌, not}
use Rattle.std.specs.FinSet as set
use Rattle.std.proofs.lemmas.Bool.{or_right, both_ways}
use Rattle.std.proofs.lemmas.Bool.Decides.{eqb_tells}
use Rattle.std.proofs.Math.Bool.{and-false}
use Rattle.graph_spec.specs.Members.{at}
use Rattle.graph_spec.specs.Graphs.{Graph, has_edge}
use Rattle.graph_spec.specs.Changes.{with_edge, without_edge}
use Rattle.graph_spec.specs.Shapes.{IsShape, shape_of}
use Rattle.graph_spec.proofs.EdgeOrder.{edge_cmp_total, eq_pair}
use Rattle.bisim_spec.specs.Stability.{Stable, Minimal}
use Rattle.bisim_spec.specs.Supports.{Adjacent}
use Rattle.bisim_spec.proofs.Ranks.{acyclic_full}
use Rattle.bisim_spec.proofs.Stable.{stable_parents}
use Rattle.bisim_spec.proofs.Together.{together_at}
use Rattle.bisim_spec.specs.KeptBlocks.{HasOther}
use Rattle.change_spec.specs.Steps.{Step, after}
use Rattle.change_spec.specs.NextOne.{OneStep}
use Rattle.one_spec.proofs.UnchangedTarget.{HasTwin, stable_twin, minimal_twin}

edge_with : (g : Graph) (u v a b : ℕ) → has_edge (with_edge g u v) a b ≡ ((nat_eq a u && nat_eq b v) || has_edge g a b)
edge_with g u v a b = set.contains-insert edge_cmp_total g.edges (u, v) (a, b) ∙ ap (λ x. x || has_edge g a b) (eq_pair a b u v)

edge_without : (g : Graph) (u v a b : ℕ) → has_edge (without_edge g u v) a b ≡ (not (nat_eq a u && nat_eq b v) && has_edge g a b)
edge_without g u v a b = set.contains-remove edge_cmp_total g.edges (u, v) (a, b) ∙ ap (λ x. not x && has_edge g a b) (eq_pair a b u v)

-- not both ends
off_pair : (u v x y : ℕ) → (x ≡ u → y ≡ v → ⊥) → (nat_eq x u && nat_eq y v) ≡ false
off_pair u v x y h = elim (eqb_tells x u) [
  | inl a ↦ elim (eqb_tells y v) [
    | inl b ↦ absurd (h a.1 b.1)
    | inr b ↦ ap (λ t. nat_eq x u && t) b.0 ∙ and-false (nat_eq x u)
  ]
  | inr a ↦ ap (λ t. t && nat_eq y v) a.0
]

pub twin_link : (g : Graph) (u v : ℕ) (p : List (Option ℕ)) → (o : HasOther (shape_of (with_edge g u v)) p u v) → HasTwin (shape_of g) (shape_of (with_edge g u v)) p u v o.parent
twin_link g u v p o =
    let same : (x y : ℕ) → (x ≡ u → y ≡ v → ⊥) → has_edge g x y ≡ has_edge (with_edge g u v) x y =
    λ x y h. sym (edge_with g u v x y ∙ ap (λ t. t || has_edge g x y) (off_pair u v x y h)) in
    record {
      label = λ n. λ i. (shape_of g).label n;
      edge = same;
      other = o.other;
      parent = same o.parent v (λ a b. o.other a) ∙ o.is_parent;
      together = o.together;
    }

pub twin_unlink : (g : Graph) (u v : ℕ) (p : List (Option ℕ)) → (o : HasOther (shape_of (without_edge g u v)) p u v)
    → HasTwin (shape_of g) (shape_of (without_edge g u v)) p u v o.parent
twin_unlink g u v p o =
    let same : (x y : ℕ) → (x ≡ u → y ≡ v → ⊥) → has_edge g x y ≡ has_edge (without_edge g u v) x y =
    λ x y h. sym (edge_without g u v x y ∙ ap (λ t. not t && has_edge g x y) (off_pair u v x y h)) in
    record {
      label = λ n. λ i. (shape_of g).label n;
      edge = same;
      other = o.other;
      parent = same o.parent v (λ a b. o.other a) ∙ o.is_parent;
      together = o.together;
    }

-- the partition itself is the next one
pub one_step_still : (g : Graph) (p : List (Option ℕ)) (c : List Step) (u v w : ℕ) → IsShape (shape_of g) → IsShape (shape_of (after c g))
    → HasTwin (shape_of g) (shape_of (after c g)) p u v w → Stable (shape_of g) p → Minimal (shape_of g) p → OneStep g p c (after c g) p
one_step_still g p c u v w shape shape2 twin st min =
    let s2 = shape_of (after c g) in
    let stable = stable_twin (shape_of g) s2 p u v w shape shape2 twin st in
    let minimal = minimal_twin (shape_of g) s2 p u v w shape shape2 twin min in
    record {
      made = refl;
      index = record { stable = stable; minimal = minimal; whole = λ acyclic. acyclic_full s2 p shape2 acyclic stable minimal };
      outside = λ x y nx ny mx my ox oy. (λ t. t, λ t. t);
      still = λ keeps x y nx ny. (λ t. t, λ t. t);
    }

-- where the block of u has support to that of v, a new edge from u to v gives v no new parent block
pub supported_other : (g : Graph) (u v a b : ℕ) (p : List (Option ℕ)) → Stable (shape_of g) p → has_edge g u v ≡ false → at p u ≡ Some a → at p v ≡ Some b
    → Adjacent (shape_of g) p a b → HasOther (shape_of (with_edge g u v)) p u v
supported_other g u v a b p st absent hu hv (x, y, e, hx, hy) =
    let r = stable_parents (shape_of g) p st y v (b, hy, hv) x e in
    record {
      parent = r.0;
      other = λ z. both_ways (has_edge g u v) absent (ap (λ m. has_edge g m v) (sym z) ∙ r.1);
      is_parent = edge_with g u v r.0 v ∙ or_right (nat_eq r.0 u && nat_eq v v) (has_edge g r.0 v) r.1;
      together = (a, together_at p x r.0 a r.2 hx, hu);
    }
