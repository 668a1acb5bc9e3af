-- A graph that represents a set of triples, by the numbers of its nodes.
use Rattle.std.specs.Prelude.{ℕ, ◌≡◌, ◌<◌, ◌↔◌, not, Bool, List, [], ◌∷◌, ◌++◌, length, Option, Some, IsTrue, IsFalse, filter, if◌then◌else◌}
use Rattle.std.specs.List.{list_any, IsDistinct}
use Rattle.graph_spec.specs.Graphs.{Graph, label_of, is_live, has_edge}
use Rattle.triples_read.specs.Canonical.{IsSpelled}
use Rattle.triples_read.specs.declared.term.Triple.{Triple}
use Rattle.triple_names.specs.Items.{Item, same_triple, item_label, has_item, has_join}
use Rattle.triple_names.specs.Names.{Names, number_in}

-- The nodes of the graph are the items that pass the first test, by their numbers, and its edges lead from item to item as the
-- second test says.
pub record IsImage (g : Graph) (number : Item → Option ℕ) (is_node : Item → Bool) (is_edge : Item → Item → Bool) : Type 0 where
  -- each such item has a number, where its label stands
  pub labelled : (p : Item) → IsTrue (is_node p) → (m : ℕ) × (number p ≡ Some m) × (label_of g m ≡ Some (item_label p))
  -- no two have the same number
  pub once : (m : ℕ) (p q : Item) → IsTrue (is_node p) → IsTrue (is_node q) → number p ≡ Some m → number q ≡ Some m → p ≡ q
  -- no other node is live
  pub all : (m : ℕ) → IsTrue (is_live g m) → (p : Item) × IsTrue (is_node p) × (number p ≡ Some m)
  -- the edges are these
  pub edges : (u v : ℕ) → IsTrue (has_edge g u v) ↔ ((p : Item) × (q : Item) × IsTrue (is_edge p q) × (number p ≡ Some u) × (number q ≡ Some v))
  -- the number of any other item was given, and its node is gone
  pub gone : (p : Item) (m : ℕ) → IsFalse (is_node p) → number p ≡ Some m → (m < length g.allocated) × IsFalse (is_live g m)

-- the triple is one of them
abbrev pub is_among : List Triple → Triple → Bool
is_among s t = list_any (same_triple t) s

-- The graph with the names represents the triples, which are distinct and can all be spelled: its nodes are their subjects, their
-- objects and the triples themselves, and its edges lead from each subject to the triple and on to the object.
pub record Represents (g : Graph) (n : Names) (s : List Triple) : Type 0 where
  -- no triple stands twice
  pub distinct : IsDistinct same_triple s
  -- each can be spelled
  pub spelled : (t : Triple) → IsTrue (is_among s t) → IsSpelled t
  -- the live nodes are just their terms and the triples, and the edges lead from subjects to triples to objects
  pub image : IsImage g (number_in n) (has_item s) (has_join s)

-- the triples, and this one behind them where it is new
abbrev pub with_triple : List Triple → Triple → List Triple
with_triple s t = if is_among s t then s else s ++ t ∷ []

-- the triples but this one
abbrev pub without_triple : List Triple → Triple → List Triple
without_triple s t = filter (λ u. not (same_triple t u)) s
