-- A change alters a graph at its targets alone.
use Rattle.std.proofs.Common.{◌≡◌, ◌≢◌, ℕ, zero, suc, Bool, true, false, List, [], ◌∷◌, Option, Some, None, IsTrue, IsFalse, refl, sym, ap, ◌∙◌, subst, nat_eq, inl, inr, true≢false, is_some}
use Rattle.std.specs.Prelude.{◌||◌, ◌&&◌, not, slice_set}
use Rattle.std.proofs.Math.Bool.{and-false, and-true}
use Rattle.std.proofs.lemmas.Bool.{cases_Bool, or_parts}
use Rattle.std.proofs.lemmas.Bool.Decides.{eqb_tells}
use Rattle.std.proofs.lemmas.Slice.Eq.{bytes_eq-Decides}
use Rattle.graph_spec.specs.Graphs.{Graph, label_of, is_live, has_edge}
use Rattle.graph_spec.specs.Changes.{with_edge}
use Rattle.graph_spec.specs.Shapes.{Shape, IsNode, shape_of}
use Rattle.graph_spec.proofs.GraphLaws.{edge_with}
use Rattle.bisim_spec.proofs.Differs.{differs_node, differs_unlink}
use Rattle.change_spec.specs.Steps.{Step, node, link, unlink, drop, relabel, without_node, labelled, made, after, is_text}
use Rattle.change_spec.specs.Altered.{alters, altered, targets}
use Rattle.bisim_spec.proofs.Outside.{DiffersAt}
use Rattle.change_spec.proofs.StepGraphs.{edge_dropped, label_other, label_gone}

-- what is no target and a node after is a node before
pub live_before : (target : ℕ → Bool) (s s2 : Shape) → DiffersAt target s s2 → (n : ℕ) → IsFalse (target n) → IsNode s2 n → IsNode s n
live_before target s s2 d n off h = ap is_some (d.label n h off) ∙ h

-- one change, and then another
pub differs_then : (t1 t2 : ℕ → Bool) (s s1 s2 : Shape) → DiffersAt t1 s s1 → DiffersAt t2 s1 s2 → DiffersAt (λ n. t1 n || t2 n) s s2
differs_then t1 t2 s s1 s2 d1 d2 = record {
  label = λ n live off. (
      let p = or_parts (t1 n) (t2 n) off in
      d1.label n (live_before t2 s1 s2 d2 n p.1 live) p.0 ∙ d2.label n live p.1);
  edge = λ q n live off. (
      let p = or_parts (t1 n) (t2 n) off in
      d1.edge q n (live_before t2 s1 s2 d2 n p.1 live) p.0 ∙ d2.edge q n live p.1);
}

-- targets that are no nodes after the change tell nothing
pub differs_live : (t : ℕ → Bool) (s s2 : Shape) → DiffersAt t s s2 → DiffersAt (λ n. is_some (s2.label n) && t n) s s2
differs_live t s s2 d = record {
  label = λ n live off. d.label n live (free n live off);
  edge = λ q n live off. d.edge q n live (free n live off);
}
  where
    free : (n : ℕ) → IsNode s2 n → IsFalse (is_some (s2.label n) && t n) → IsFalse (t n)
    free n live off = ap (λ b. b && t n) (sym live) ∙ off

differs_link : (g : Graph) (u v : ℕ) → DiffersAt (alters (link u v) g) (shape_of g) (shape_of (with_edge g u v))
differs_link g u v = record {
  label = λ n live off. refl;
  edge = λ q n live off. sym (edge_with g u v q n ∙ same q n off);
}
  where
    here : (q n : ℕ) → q ≡ u → n ≡ v → has_edge g u v ≡ true → (true || has_edge g q n) ≡ has_edge g q n
    here q n a b on = sym (ap (λ m. has_edge g m n) a ∙ ap (has_edge g u) b ∙ on)

    same : (q n : ℕ) → (nat_eq n v && not (has_edge g u v)) ≡ false → ((nat_eq q u && nat_eq n v) || has_edge g q n) ≡ has_edge g q n
    same q n off = elim (eqb_tells n v) [
      | inr d ↦ (rw d.0 (ap (λ b. b || has_edge g q n) (and-false (nat_eq q u))))
      | inl e ↦ elim (eqb_tells q u) [
        | inr d ↦ (rw d.0 refl)
        | inl f ↦ elim (cases_Bool (has_edge g u v)) [
          | inl on ↦ (rw (e.0, f.0) (here q n f.1 e.1 on))
          | inr gone ↦ absurd (true≢false (sym (ap (λ b. b && not (has_edge g u v)) e.0 ∙ ap not gone) ∙ off))
        ]
      ]
    ]

differs_drop : (g : Graph) (u : ℕ) → DiffersAt (alters (drop u) g) (shape_of g) (shape_of (without_node g u))
differs_drop g u = record {
  label = λ n live off. sym (label_other g.allocated u n None (apart n live));
  edge = λ q n live off. sym (edge_dropped g u q n ∙ same q n (apart n live) off);
}
  where
    apart : (n : ℕ) → IsTrue (is_live (without_node g u) n) → n ≢ u
    apart n live e = true≢false (sym (subst (λ m. IsTrue (is_live (without_node g u) m)) e live) ∙ ap is_some (label_gone g u))

    same : (q n : ℕ) → n ≢ u → has_edge g u n ≡ false → (has_edge g q n && not (nat_eq q u || nat_eq n u)) ≡ has_edge g q n
    same q n d off = elim (eqb_tells n u) [
      | inl e ↦ absurd (d e.1)
      | inr f ↦ elim (eqb_tells q u) [
        | inl e ↦ (let none : has_edge g q n ≡ false = ap (λ m. has_edge g m n) e.1 ∙ off in rw none refl)
        | inr h ↦ (rw (f.0, h.0) (and-true (has_edge g q n)))
      ]
    ]

has_text : (t : List ℕ) (o : Option (List ℕ)) → is_text t o ≡ true → o ≡ Some t
has_text t None h = absurd (true≢false (sym h))
has_text t (Some r) h = ap Some (sym ((bytes_eq-Decides t r).0 h))

differs_label : (g : Graph) (u : ℕ) (t : List ℕ) → DiffersAt (alters (relabel u t) g) (shape_of g) (shape_of (labelled g u t))
differs_label g u t = record {
  label = λ n live off. elim (eqb_tells n u) [
    | inr d ↦ sym (label_other g.allocated u n (Some t) d.1)
    | inl e ↦ same n e.0 e.1 live off
  ];
  edge = λ q n live off. refl;
}
  where
    put : (given : List (Option (List ℕ))) (m : ℕ) (o : Option (List ℕ)) → o ≡ Some t → label_of (record g { allocated = given }) m ≡ o → label_of (record g { allocated = slice_set given m (Some t) }) m ≡ o
    put [] m o f h = h
    put (x ∷ xs) zero o f h = sym f
    put (x ∷ xs) (suc m) o f h = put xs m o f h

    same : (n : ℕ) → nat_eq n u ≡ true → n ≡ u → IsTrue (is_live (labelled g u t) n) → (nat_eq n u && not (is_text t (label_of g u))) ≡ false → label_of g n ≡ label_of (labelled g u t) n
    same n on e live off = elim (cases_Bool (is_text t (label_of g u))) [
      | inr gone ↦ absurd (true≢false (sym (ap (λ b. b && not (is_text t (label_of g u))) on ∙ ap not gone) ∙ off))
      | inl idle ↦ (
          let was : label_of g u ≡ Some t = has_text t (label_of g u) idle in
          subst (λ m. label_of g m ≡ label_of (labelled g u t) m) (sym e) (sym (put g.allocated u (label_of g u) was refl)))
    ]

-- the graph that a step leaves differs where the step alters it alone
pub differs_made : (s : Step) (g : Graph) → DiffersAt (alters s g) (shape_of g) (shape_of (made s g))
differs_made (node t) g = differs_node g t
differs_made (link u v) g = differs_link g u v
differs_made (unlink u v) g = differs_unlink g u v
differs_made (drop u) g = differs_drop g u
differs_made (relabel u t) g = differs_label g u t

differs_all : (c : List Step) (g : Graph) → DiffersAt (altered c g) (shape_of g) (shape_of (after c g))
differs_all [] g = record { label = λ n live off. refl; edge = λ q n live off. refl }
differs_all (s ∷ ss) g = differs_then (alters s g) (altered ss (made s g)) (shape_of g) (shape_of (made s g)) (shape_of (after ss (made s g))) (differs_made s g) (differs_all ss (made s g))

-- The graph that a change leaves differs at its targets alone: each other live node has the label and the parents that it had.
pub differs_after : (c : List Step) (g : Graph) → DiffersAt (targets c g) (shape_of g) (shape_of (after c g))
differs_after c g = differs_live (altered c g) (shape_of g) (shape_of (after c g)) (differs_all c g)
