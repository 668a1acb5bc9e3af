-- Keys of active nodes.
use Rattle.std.proofs.Common.{◌≡◌, ℕ, ◌≤◌, List, length, Option, Some, IsSome, IsTrue, sym, subst, arith, true, Bool, slice_get, slice_index}
use Rattle.std.specs.List.{list_any}
use Rattle.std.proofs.lemmas.Option.{slice_get_within}
use Rattle.graph_spec.specs.Graphs.{Graph, IsGraph}
use Rattle.graph_spec.specs.Shapes.{shape_of}
use Rattle.graph_spec.specs.Members.{has, at}
use Rattle.label_graph.specs.GraphViews.{label_number}
use Rattle.label_graph.specs.ViewLaws.{below_span}
use Rattle.bisim_spec.specs.Partitions.{Together, IsPartition}
use Rattle.bisim_spec.specs.declared.sides.Side.{Side}
use Rattle.bisim_spec.specs.declared.sides.Side.TheVariants.{Parents, Children}
use Rattle.bisim_levels.specs.NeighbourSides.{is_neighbour}
use Rattle.bisim_levels.proofs.LabelledNodes.{neighbour_block, node_number, number_node}
use Rattle.bisim_spec.proofs.WrittenKeys.{key_from_together}
use Rattle.block_partition.specs.LabelledPartitions.{Partition, IsBlock}
use Rattle.block_splitting.specs.Splits.{IsNeighbour}
use Rattle.block_splitting.specs.Groups.{AreReady, AreGrouped, NeighbourKey}
use Rattle.block_splitting.specs.Chosen.{HasFirst}
use Rattle.block_splitting.specs.Moved.{CanPart}
use Rattle.block_splitting.proofs.Lists.{any_get}

-- active nodes have blocks, and are below the size
pub ready : (g : Graph) (block : List (Option ℕ)) (list active_nodes : List ℕ) (size : ℕ) → list ≡ active_nodes → IsPartition (shape_of g) block
    → ((n : ℕ) → has active_nodes n ≡ true → IsSome (label_number g n)) → length g.allocated ≤ size → AreReady g block (has list) size
ready g block list active_nodes size e p nodes reserved = subst (λ (xs : List ℕ). AreReady g block (has xs) size) (sym e) (record {
  node = nodes;
  has_block = λ n h. p.live n (number_node g n (nodes n h));
  below = λ n h. let l = below_span g n (nodes n h) in omega (arith, l, reserved);
})

-- Of the keys that K gives to nodes: a key begins with the node's block, and a node has one key at most.
pub record AreKeys (K : ℕ → List ℕ → Type 0) (block : List (Option ℕ)) : Type 0 where
  pub owner : (n : ℕ) (key : List ℕ) → K n key → (own : ℕ) × HasFirst key own × (at block n ≡ Some own)
  pub unique : (n : ℕ) (x y : List ℕ) → K n x → K n y → x ≡ y

-- the keys of neighbours' blocks are such
pub neighbour_keys : (g : Graph) → IsGraph g → (side : Side) (block : List (Option ℕ)) → IsPartition (shape_of g) block → AreKeys (NeighbourKey g side block) block
neighbour_keys g s side block part = record {
  owner = λ n key k. (k.number, record { around = k.around; is = k.is }, k.own_is);
  unique = λ n x y k l. key_from_together (at block) block (is_neighbour side g) n n x y (record {
    one_number = (k.number, k.own_is, k.own_is);
    neighbours = record { there = λ p e. (p, e, itself n p e); back = λ p e. (p, e, itself n p e) };
  }) k l;
}
  where
    itself : (n p : ℕ) → IsNeighbour side g p n → Together block p p
    itself n p e = let b = neighbour_block g s side block part p n e in (b.0, b.1, b.1)

-- each key begins with the number of a block
keyed : (K : ℕ → List ℕ → Type 0) (p : Partition) (seen : ℕ → Bool) (keys : List (List ℕ)) (group : List ℕ) → AreKeys K p.block_of → AreGrouped K seen keys group
    → ((n b : ℕ) → at p.block_of n ≡ Some b → IsBlock p b) → (k : ℕ) (key : List ℕ) → slice_get keys k ≡ Some key → (own : ℕ) × HasFirst key own × IsBlock p own
keyed K p seen keys group a w live k key e =
    let n = w.inhabited k key e in
    let o = a.owner n.0 key n.2 in
    (o.0, o.1, live n.0 o.0 o.2)

-- blocks can be split by these groups
pub can_part : (g : Graph) (K : ℕ → List ℕ → Type 0) (p : Partition) (list active_nodes : List ℕ) (keys : List (List ℕ)) (size : ℕ) (group group2 : List ℕ) → list ≡ active_nodes → group2 ≡ group → AreKeys K p.block_of
    → AreReady g p.block_of (has list) size → size ≡ length group → ((n b : ℕ) → at p.block_of n ≡ Some b → IsBlock p b) → AreGrouped K (has list) keys group → CanPart p (has active_nodes) keys group2
can_part g K p list active_nodes keys size group group2 e eg a r long live w =
    subst (λ (xs : List ℕ). CanPart p (has xs) keys group2) e
    (subst (λ (gs : List ℕ). CanPart p (has list) keys gs) (sym eg) (record {
      has_block = r.has_block;
      below = λ n h. let l = r.below n h in omega (arith, l, long);
      grouped = λ n h. let key = w.each n h in slice_get_within keys (slice_index group n) key.0 key.1;
      keyed = keyed K p (has list) keys group a w live;
    }))

-- what has a neighbour is a node
neighbour_node : (g : Graph) → IsGraph g → (t : Side) (p n : ℕ) → IsTrue (is_neighbour t g p n) → IsSome (label_number g n)
neighbour_node g s Parents p n e = node_number g s n (s.onto p n e)
neighbour_node g s Children p n e = node_number g s n (s.from n p e)

-- those that have a neighbour among these are nodes
pub around_nodes : (g : Graph) → IsGraph g → (side : Side) (nodes : List ℕ) (n : ℕ) → list_any (λ q. is_neighbour side g q n) nodes ≡ true → IsSome (label_number g n)
around_nodes g s side nodes n h = let q = any_get (λ x. is_neighbour side g x n) nodes h in neighbour_node g s side q.0 n q.2
