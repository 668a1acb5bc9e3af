-- A change alters a graph at its ends alone, by the sides that count.
use Rattle.std.proofs.Common.{◌≡◌, ◌≢◌, ℕ, Bool, true, false, List, [], ◌∷◌, IsTrue, IsFalse, refl, sym, ap, ◌∙◌, subst, nat_eq, inl, inr, true≢false, is_some}
use Rattle.std.specs.Prelude.{◌||◌, ◌&&◌, not}
use Rattle.std.proofs.Math.Bool.{and-true}
use Rattle.std.proofs.lemmas.Bool.{cases_Bool, or_parts, or_left, or_right, and_parts, and_from, false_from_ne_true, both_ways}
use Rattle.std.proofs.lemmas.Bool.Decides.{eqb_tells}
use Rattle.graph_spec.specs.Graphs.{Graph, is_live, has_edge}
use Rattle.graph_spec.specs.Changes.{with_edge, without_edge}
use Rattle.graph_spec.specs.Shapes.{Shape, IsNode, shape_of}
use Rattle.graph_spec.proofs.GraphLaws.{edge_with, edge_without}
use Rattle.bisim_spec.specs.declared.sides.Side.{Side}
use Rattle.bisim_spec.specs.declared.sides.Side.TheVariants as side
use Rattle.bisim_spec.specs.declared.sides.Sides.{Sides}
use Rattle.bisim_spec.specs.declared.sides.Sides.TheVariants as sides
use Rattle.bisim_spec.specs.SidedLevels.{beside, DiffersBy}
use Rattle.bisim_spec.proofs.LevelSides.{differs_by_parents}
use Rattle.change_spec.specs.Steps.{Step, node, link, unlink, drop, relabel, without_node, made, after}
use Rattle.change_spec.specs.Altered.{alters}
use Rattle.change_spec.specs.Ends.{is_end, is_some_end, ends, ends_by}
use Rattle.change_spec.proofs.StepDiffers.{differs_made, differs_after}
use Rattle.change_spec.proofs.StepGraphs.{edge_dropped, label_gone}

-- a live node that is no end has the children that it had
record SameChildren (end : ℕ → Bool) (s s2 : Shape) : Type 0 where
  edge : (n c : ℕ) → IsNode s2 n → IsFalse (end n) → s.edge n c ≡ s2.edge n c

-- where a step alters the graph is an end of it
alters_end : (s : Step) (g : Graph) (n : ℕ) → IsFalse (is_end s g n) → IsFalse (alters s g n)
alters_end (node t) g n off = off
alters_end (link u v) g n off =
    false_from_ne_true (alters (link u v) g n) (λ t.
    let p = and_parts (nat_eq n v) (not (has_edge g u v)) t in
    both_ways (is_end (link u v) g n) off (and_from (nat_eq n u || nat_eq n v) (not (has_edge g u v)) (or_right (nat_eq n u) (nat_eq n v) p.0) p.1))
alters_end (unlink u v) g n off = (or_parts (nat_eq n u) (nat_eq n v) off).1
alters_end (drop u) g n off = (or_parts (has_edge g n u) (has_edge g u n) off).1
alters_end (relabel u t) g n off = off

children_linked : (g : Graph) (u v : ℕ) → SameChildren (is_end (link u v) g) (shape_of g) (shape_of (with_edge g u v))
children_linked g u v = record { edge = λ n c live off. sym (edge_with g u v n c ∙ same n c off) }
  where
    same : (n c : ℕ) → is_end (link u v) g n ≡ false → ((nat_eq n u && nat_eq c v) || has_edge g n c) ≡ has_edge g n c
    same n c off = elim (eqb_tells n u) [
      | inr d ↦ ap (λ b. (b && nat_eq c v) || has_edge g n c) d.0
      | inl e ↦ elim (eqb_tells c v) [
        | inr d ↦ (rw (e.0, d.0) refl)
        | inl f ↦ elim (cases_Bool (has_edge g u v)) [
          | inl on ↦ (
              let here : has_edge g n c ≡ true = ap (λ m. has_edge g m c) e.1 ∙ ap (has_edge g u) f.1 ∙ on in
              rw (e.0, f.0) (sym here))
          | inr gone ↦ absurd (both_ways (is_end (link u v) g n) off (and_from (nat_eq n u || nat_eq n v) (not (has_edge g u v)) (or_left (nat_eq n u) (nat_eq n v) e.0) (ap not gone)))
        ]
      ]
    ]

children_unlinked : (g : Graph) (u v : ℕ) → SameChildren (is_end (unlink u v) g) (shape_of g) (shape_of (without_edge g u v))
children_unlinked g u v = record {
  edge = λ n c live off.
      sym (edge_without g u v n c ∙ ap (λ b. not (b && nat_eq c v) && has_edge g n c) (or_parts (nat_eq n u) (nat_eq n v) off).0);
}

children_dropped : (g : Graph) (u : ℕ) → SameChildren (is_end (drop u) g) (shape_of g) (shape_of (without_node g u))
children_dropped g u = record { edge = λ n c live off. sym (edge_dropped g u n c ∙ same n c (apart n live) (or_parts (has_edge g n u) (has_edge g u n) off).0) }
  where
    apart : (n : ℕ) → IsTrue (is_live (without_node g u) n) → n ≢ u
    apart n live e = true≢false (sym (subst (λ m. IsTrue (is_live (without_node g u) m)) e live) ∙ ap is_some (label_gone g u))

    same : (n c : ℕ) → n ≢ u → has_edge g n u ≡ false → (has_edge g n c && not (nat_eq n u || nat_eq c u)) ≡ has_edge g n c
    same n c d off = elim (eqb_tells n u) [
      | inl e ↦ absurd (d e.1)
      | inr f ↦ elim (eqb_tells c u) [
        | inl e ↦ (let none : has_edge g n c ≡ false = ap (has_edge g n) e.1 ∙ off in rw none refl)
        | inr h ↦ (rw (f.0, h.0) (and-true (has_edge g n c)))
      ]
    ]

children_made : (s : Step) (g : Graph) → SameChildren (is_end s g) (shape_of g) (shape_of (made s g))
children_made (node t) g = record { edge = λ n c live off. refl }
children_made (link u v) g = children_linked g u v
children_made (unlink u v) g = children_unlinked g u v
children_made (drop u) g = children_dropped g u
children_made (relabel u t) g = record { edge = λ n c live off. refl }

differs_made_both : (s : Step) (g : Graph) → DiffersBy sides.Both (is_end s g) (shape_of g) (shape_of (made s g))
differs_made_both s g = record {
  label = λ n live off. (differs_made s g).label n live (alters_end s g n off);
  edge = λ d c p n live off. both d p n live off;
}
  where
    both : (d : Side) (p n : ℕ) → IsNode (shape_of (made s g)) n → IsFalse (is_end s g n) → beside d (shape_of g) p n ≡ beside d (shape_of (made s g)) p n
    both side.Parents p n live off = (differs_made s g).edge p n live (alters_end s g n off)
    both side.Children p n live off = (children_made s g).edge n p live off

-- what is no end and a node after is a node before
was_live : (which : Sides) (end : ℕ → Bool) (s s2 : Shape) → DiffersBy which end s s2 → (n : ℕ) → IsFalse (end n) → IsNode s2 n → IsNode s n
was_live which end s s2 d n off live = ap is_some (d.label n live off) ∙ live

-- one change, and then another
differs_both_then : (e1 e2 : ℕ → Bool) (s s1 s2 : Shape) → DiffersBy sides.Both e1 s s1 → DiffersBy sides.Both e2 s1 s2 → DiffersBy sides.Both (λ n. e1 n || e2 n) s s2
differs_both_then e1 e2 s s1 s2 d1 d2 = record {
  label = λ n live off. (
      let p = or_parts (e1 n) (e2 n) off in
      d1.label n (was_live sides.Both e2 s1 s2 d2 n p.1 live) p.0 ∙ d2.label n live p.1);
  edge = λ d c q n live off. (
      let p = or_parts (e1 n) (e2 n) off in
      d1.edge d c q n (was_live sides.Both e2 s1 s2 d2 n p.1 live) p.0 ∙ d2.edge d c q n live p.1);
}

differs_both_all : (c : List Step) (g : Graph) → DiffersBy sides.Both (is_some_end c g) (shape_of g) (shape_of (after c g))
differs_both_all [] g = record { label = λ n live off. refl; edge = λ d c p n live off. refl }
differs_both_all (s ∷ ss) g =
    differs_both_then (is_end s g) (is_some_end ss (made s g)) (shape_of g) (shape_of (made s g)) (shape_of (after ss (made s g)))
    (differs_made_both s g) (differs_both_all ss (made s g))

-- The graph that a change leaves differs at its ends alone: each other live node has its label, and its neighbours on
-- the sides that count.
pub differs_by : (which : Sides) (c : List Step) (g : Graph) → DiffersBy which (ends_by which c g) (shape_of g) (shape_of (after c g))
differs_by sides.Parents c g = differs_by_parents (ends_by sides.Parents c g) (shape_of g) (shape_of (after c g)) (differs_after c g)
differs_by sides.Both c g = record {
  label = λ n live off. (differs_both_all c g).label n live (free n live off);
  edge = λ d k p n live off. (differs_both_all c g).edge d k p n live (free n live off);
}
  where
    free : (n : ℕ) → IsNode (shape_of (after c g)) n → IsFalse (ends c g n) → IsFalse (is_some_end c g n)
    free n live off = ap (λ b. b && is_some_end c g n) (sym live) ∙ off
