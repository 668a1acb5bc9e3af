-- Shapes that are the same up to the numbers of their nodes.
use Rattle.std.specs.Prelude.{ℕ, ◌≡◌, List, Some, IsTrue}
use Rattle.graph_spec.specs.Shapes.{Shape, IsNode}
use Rattle.triples_read.specs.declared.term.Triple.{Triple}
use Rattle.triple_names.specs.Items.{Item, has_item}
use Rattle.triple_names.specs.Names.{Names, number_in}

-- The relation pairs each node of the one shape with one node of the other, and those of a pair agree in their label and in their
-- edges: it is an isomorphism of labelled graphs.
pub record IsIsomorphism (s t : Shape) (pairs : ℕ → ℕ → Type 0) : Type 0 where
  -- each node of the one has a partner in the other
  pub there : (u : ℕ) → IsNode s u → (v : ℕ) × IsNode t v × pairs u v
  -- and the other way round
  pub back : (v : ℕ) → IsNode t v → (u : ℕ) × IsNode s u × pairs u v
  -- no node of the one has two partners
  pub one : (u v w : ℕ) → pairs u v → pairs u w → v ≡ w
  -- nor has a node of the other
  pub only : (u v w : ℕ) → pairs u w → pairs v w → u ≡ v
  -- partners have one label
  pub label : (u v : ℕ) → pairs u v → s.label u ≡ t.label v
  -- edges join two nodes exactly where they join their partners
  pub edge : (u v x y : ℕ) → pairs u v → pairs x y → s.edge u x ≡ t.edge v y

-- the two numbers are those of one item of the triples
abbrev pub Paired : Names → Names → List Triple → ℕ → ℕ → Type 0
Paired n k s u v = (p : Item) × IsTrue (has_item s p) × (number_in n p ≡ Some u) × (number_in k p ≡ Some v)
