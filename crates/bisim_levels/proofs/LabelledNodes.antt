-- The nodes that a view numbers by their labels are those of the graph.
use Rattle.std.proofs.Common.{◌≡◌, ℕ, List, Option, None, Some, IsSome, IsTrue, refl, ◌∙◌, ap, slice_get}
use Rattle.std.specs.Prelude.{option_and_then, is_some, position, bytes_eq}
use Rattle.graph_spec.specs.Graphs.{Graph, IsGraph, label_of}
use Rattle.graph_spec.specs.Members.{Lists, at}
use Rattle.graph_spec.specs.Shapes.{Shape, IsNode, shape_of}
use Rattle.label_graph.specs.GraphViews.{label_number, is_linked}
use Rattle.label_graph.proofs.Viewed.{viewed_shape, linked_is}
use Rattle.bisim_spec.specs.Partitions.{IsPartition}
use Rattle.bisim_spec.proofs.Bisimilar.{some_of}
use Rattle.bisim_spec.specs.declared.sides.Side.{Side}
use Rattle.bisim_spec.specs.declared.sides.Side.TheVariants.{Parents, Children}
use Rattle.bisim_levels.specs.NeighbourSides.{is_neighbour}

-- the text of a node's label stands in the table at its number
pub label_at : (g : Graph) → IsGraph g → (n : ℕ) → option_and_then (slice_get g.seen) (label_number g n) ≡ label_of g n
label_at g s n = ap (λ (x : Shape). x.label n) (viewed_shape g s)

some_first : {X Y : Type 0} (f : X → Option Y) (o : Option X) → IsSome (option_and_then f o) → IsSome o
some_first f None h = h
some_first f (Some x) h = refl

pub node_number : (g : Graph) → IsGraph g → (n : ℕ) → IsNode (shape_of g) n → IsSome (label_number g n)
node_number g s n h = some_first (slice_get g.seen) (label_number g n) (ap is_some (label_at g s n) ∙ h)

pub number_node : (g : Graph) (n : ℕ) → IsSome (label_number g n) → IsNode (shape_of g) n
number_node g n h = some_first (λ t. position (bytes_eq t) g.seen) (label_of g n) h

-- what a view lists on one side of a node are its neighbours there
pub parents_neighbours : (g : Graph) → IsGraph g → (n : ℕ) (nodes : List ℕ) → Lists (λ u. is_linked g u n) nodes → Lists (λ p. is_neighbour Parents g p n) nodes
parents_neighbours g s n nodes l = record { once = l.once; members = λ p. l.members p ∙ linked_is g s p n }

pub children_neighbours : (g : Graph) → IsGraph g → (n : ℕ) (nodes : List ℕ) → Lists (is_linked g n) nodes → Lists (λ p. is_neighbour Children g p n) nodes
children_neighbours g s n nodes l = record { once = l.once; members = λ p. l.members p ∙ linked_is g s n p }

-- neighbours are nodes, and so have blocks in a partition
pub neighbour_block : (g : Graph) → IsGraph g → (side : Side) (block : List (Option ℕ)) → IsPartition (shape_of g) block → (p n : ℕ) → IsTrue (is_neighbour side g p n)
    → (b : ℕ) × (at block p ≡ Some b)
neighbour_block g s Parents block partition p n e = some_of (at block p) (partition.live p (s.from p n e))
neighbour_block g s Children block partition p n e = some_of (at block p) (partition.live p (s.onto n p e))
