-- The definitions at worked values, and at near misses.
use Rattle.std.proofs.Common.{◌≡◌, ℕ, zero, suc, true, false, Bool, List, [], ◌∷◌, refl, ap, sym, subst, arith, Option, None, Some, true≢false}
use Rattle.std.specs.Prelude.{codes, slice_index}
use Rattle.std.specs.FinSet as set
use Rattle.graph_spec.specs.Lines.{cut}
use Rattle.graph_spec.specs.Words.{words, is_name}
use Rattle.graph_spec.specs.Graphs.{Graph, IsGraph, empty_graph}
use Rattle.graph_spec.specs.Changes.{with_node, without_node}
use Rattle.graph_spec.specs.Shapes.{Shape}
use Rattle.graph_spec.specs.Walks.{Leads}
use Rattle.graph_spec.proofs.EdgeOrder.{edge_cmp_total}
use Rattle.graph_spec.proofs.GraphLaws.{graph_empty, graph_with_node, graph_with_edge}
use Rattle.std.specs.List.{IsDistinct}

-- a text's last line needs no end, and after the last end there is no line
cut_ended : cut (codes "a\n\nb\n") ≡ record { text = codes "a"; end = 10 ∷ [] } ∷ record { text = []; end = 10 ∷ [] } ∷ record { text = codes "b"; end = 10 ∷ [] } ∷ []
cut_ended = refl

cut_open : cut (codes "a\nb") ≡ record { text = codes "a"; end = 10 ∷ [] } ∷ record { text = codes "b"; end = [] } ∷ []
cut_open = refl

cut_empty : cut [] ≡ []
cut_empty = refl

words_parted : words (codes "  node \t a ") ≡ codes "node" ∷ codes "a" ∷ []
words_parted = refl

words_none : words (codes " \t ") ≡ []
words_none = refl

-- a name begins with a letter
name_plain : is_name (codes "a-1_B") ≡ true
name_plain = refl

name_digit : is_name (codes "1a") ≡ false
name_digit = refl

name_empty : is_name [] ≡ false
name_empty = refl

name_slash : is_name (codes "a/b") ≡ false
name_slash = refl

-- CR LF is one end, a CR alone is one, and LF CR are two
cut_returns : cut (codes "a\r\nb\rc") ≡ record { text = codes "a"; end = 13 ∷ 10 ∷ [] } ∷ record { text = codes "b"; end = 13 ∷ [] } ∷ record { text = codes "c"; end = [] } ∷ []
cut_returns = refl

cut_feed_return : cut (codes "\n\r") ≡ record { text = []; end = 10 ∷ [] } ∷ record { text = []; end = 13 ∷ [] } ∷ []
cut_feed_return = refl

-- a first node has number 0, and its label is seen; a second one with that label sees no other
added : with_node empty_graph (codes "a") ≡ record { allocated = Some (codes "a") ∷ []; edges = set.empty; seen = codes "a" ∷ [] }
added = refl

added_again : (with_node (with_node empty_graph (codes "a")) (codes "a")).seen ≡ codes "a" ∷ []
added_again = refl

-- the number of a node that is gone is never allocated again
number_kept : (with_node (without_node (with_node empty_graph (codes "a")) 0) (codes "b")).allocated ≡ None ∷ Some (codes "b") ∷ []
number_kept = refl

-- on a -> b -> c a walk with the word b, c leads from 1 to 2; none with the word a, c leads anywhere
abbrev chain_label : ℕ → Option (List ℕ)
chain_label zero = Some (codes "a")
chain_label (suc zero) = Some (codes "b")
chain_label (suc (suc zero)) = Some (codes "c")
chain_label (suc (suc (suc n))) = None

abbrev chain_edge : ℕ → ℕ → Bool
chain_edge zero (suc zero) = true
chain_edge (suc zero) (suc (suc zero)) = true
chain_edge u v = false

abbrev chain : Shape
chain = record { size = 3; label = chain_label; edge = chain_edge }

walk : Leads chain 1 (codes "b" ∷ codes "c" ∷ []) 2
walk = (refl, 2, refl, (refl, refl))

no_walk : Leads chain 0 (codes "a" ∷ codes "c" ∷ []) 1 → ⊥
no_walk h = (let z : codes "b" ≡ codes "c" = (let s : Some (codes "b") ≡ Some (codes "c") = subst (λ w. chain_label w ≡ Some (codes "c")) h.3.1 h.3.0 in cc) in omega (arith, ap (λ l. slice_index l 0) z))

-- two nodes with one label, the second a child of the first, and what is seen
abbrev twins : List (List ℕ) → Graph
twins seen = record { allocated = Some (codes "a") ∷ Some (codes "a") ∷ []; edges = set.insert set.empty (0, 1); seen = seen }

twins_are_one : IsGraph (twins (codes "a" ∷ []))
twins_are_one = graph_with_edge (with_node (with_node empty_graph (codes "a")) (codes "a")) 0 1 (graph_with_node (with_node empty_graph (codes "a")) (codes "a") (graph_with_node empty_graph (codes "a") graph_empty)) refl refl

-- no graph has seen a label twice
seen_twice : IsGraph (twins (codes "a" ∷ codes "a" ∷ [])) → ⊥
unfolding IsDistinct
seen_twice s = true≢false s.distinct.0.0

-- nor has a label that wasn't seen
unseen_label : IsGraph (twins (codes "b" ∷ [])) → ⊥
unseen_label s = true≢false (sym (s.labelled 0 (codes "a") refl))

-- nor an edge to a node that is gone
gone_end : IsGraph (without_node (twins (codes "a" ∷ [])) 1) → ⊥
gone_end s = true≢false (sym (s.onto 0 1 (set.contains-insert edge_cmp_total set.empty (0, 1) (0, 1))))

-- nor one from a node that is gone
gone_beginning : IsGraph (without_node (twins (codes "a" ∷ [])) 0) → ⊥
gone_beginning s = true≢false (sym (s.from 0 1 (set.contains-insert edge_cmp_total set.empty (0, 1) (0, 1))))
