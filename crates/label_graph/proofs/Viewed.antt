-- A graph as its view shows it is the graph itself.
use Rattle.std.proofs.Common.{◌≡◌, ℕ, Bool, true, false, List, length, Option, None, Some, refl, sym, ap, ◌∙◌, true≢false}
use Rattle.std.specs.Prelude.{IsSome, IsTrue, slice_get, is_some, option_and_then, position, bytes_eq, ◌&&◌}
use Rattle.graph_spec.specs.Graphs.{Graph, IsGraph, label_of, has_edge, is_seen}
use Rattle.graph_spec.specs.Shapes.{shape_of, shape_by}
use Rattle.label_graph.specs.GraphViews.{label_number, is_linked}
use Rattle.label_graph.proofs.Positions.{position-none, text-at}

-- a label that is seen has a number, at which it stands
numbered_at : (seen : List (List ℕ)) (t : List ℕ) (o : Option ℕ) → position (bytes_eq t) seen ≡ o → IsTrue (is_seen seen t)
    → IsSome o × (option_and_then (slice_get seen) o ≡ Some t)
numbered_at seen t None e h = absurd (true≢false (sym h ∙ position-none (bytes_eq t) seen e))
numbered_at seen t (Some i) e h = (refl, text-at t seen i e)

text_is : (g : Graph) → IsGraph g → (n : ℕ) (o : Option (List ℕ)) → label_of g n ≡ o
    → option_and_then (slice_get g.seen) (option_and_then (λ t. position (bytes_eq t) g.seen) o) ≡ o
text_is g s n None e = refl
text_is g s n (Some t) e = (numbered_at g.seen t (position (bytes_eq t) g.seen) refl (s.labelled n t e)).1

numbered : (g : Graph) → IsGraph g → (n : ℕ) (o : Option (List ℕ)) → label_of g n ≡ o → IsSome o → IsSome (option_and_then (λ t. position (bytes_eq t) g.seen) o)
numbered g s n None e h = h
numbered g s n (Some t) e h = (numbered_at g.seen t (position (bytes_eq t) g.seen) refl (s.labelled n t e)).0

and_all : (a b c : Bool) → (a ≡ true → (b ≡ true) × (c ≡ true)) → (a && (b && c)) ≡ a
and_all false b c h = refl
and_all true b c h = let p = h refl in ap (λ x. x && c) p.0 ∙ p.1

-- each edge is one between nodes with labels that were seen
pub linked_is : (g : Graph) → IsGraph g → (u v : ℕ) → is_linked g u v ≡ has_edge g u v
linked_is g s u v =
    and_all (has_edge g u v) (is_some (label_number g u)) (is_some (label_number g v))
    (λ h. (numbered g s u (label_of g u) refl (s.from u v h), numbered g s v (label_of g v) refl (s.onto u v h)))

pub viewed_shape : (g : Graph) → IsGraph g → shape_by g.seen (length g.allocated) (label_number g) (is_linked g) ≡ shape_of g
viewed_shape g s i = record { size = length g.allocated; label = λ n. text_is g s n (label_of g n) refl i; edge = λ u v. linked_is g s u v i }
