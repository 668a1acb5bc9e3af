-- The nodes at which a change may leave a partition unstable: those of which it alters the label or the parent blocks.
use Rattle.std.specs.Prelude.{◌≡◌, ℕ, ◌+◌, ◌≤◌, ◌⊎◌, ◌++◌, ◌&&◌, not, sum_by, Bool, false, List, [], ◌∷◌, Option, None, Some, IsTrue, nat_eq, nat_lt}
use Rattle.std.specs.List.{IsDistinct}
use Rattle.graph_spec.specs.Graphs.{Graph, is_live, label_of, has_edge}
use Rattle.graph_spec.specs.Members.{at, has}
use Rattle.change_spec.specs.Steps.{Step, after}
use Rattle.change_spec.specs.Altered.{targets}
use Rattle.change_spec.specs.Bounds.{parents_cost}
use Rattle.bisim_spec.specs.Partitions.{Together}
use Rattle.bisim_spec.specs.IndexGraphs.{SupportTable, support_at}
use Rattle.bisim_spec.specs.declared.sides.Side.TheVariants.{Parents}
use Rattle.graph_effects.specs.Effects.{EffectLists, has_pair}
use Rattle.graph_effects.specs.StepEffects.{node_if, live_ends}
use Rattle.graph_update.specs.PendingChanges.{Pending, graph_after}
use Rattle.quotient.specs.Quotients.{Quotient}

-- nodes that pass have parents in the same blocks in both graphs
pub record KeepParents (g g2 : Graph) (p : List (Option ℕ)) (keeps : ℕ → Bool) : Type 0 where
  -- each parent in the first graph is together with some parent in the second
  pub into : (x y : ℕ) → IsTrue (keeps y) → IsTrue (has_edge g x y) → (z : ℕ) × IsTrue (has_edge g2 z y) × Together p x z
  -- and the other way round
  pub back : (x y : ℕ) → IsTrue (keeps y) → IsTrue (has_edge g2 x y) → (z : ℕ) × IsTrue (has_edge g z y) × Together p x z

-- a node of the graph that isn't listed
abbrev pub is_unlisted : Graph → List ℕ → ℕ → Bool
is_unlisted g2 found n = is_live g2 n && not (has found n)

-- targets of the change, each once: all nodes of the next graph of which the label or the parent blocks aren't what they were
pub record AreUnsteady (g : Graph) (c : List Step) (p : List (Option ℕ)) (found : List ℕ) : Type 0 where
  -- none is listed twice
  pub once : IsDistinct nat_eq found
  -- each is a target of the change
  pub among : (n : ℕ) → IsTrue (has found n) → IsTrue (targets c g n)
  -- a node that isn't listed has the label that it had
  pub labels : (n : ℕ) → IsTrue (is_unlisted (after c g) found n) → label_of g n ≡ label_of (after c g) n
  -- and parents in the same blocks as before
  pub parents : KeepParents g (after c g) p (is_unlisted (after c g) found)

-- whether both are blocks, the first with support to the second
abbrev pub supports_block : SupportTable → Option ℕ → Option ℕ → Bool
supports_block t None o = false
supports_block t (Some a) None = false
supports_block t (Some a) (Some b) = nat_lt 0 (support_at t a b)

-- whether both nodes have blocks, that of the first with support to that of the second
abbrev pub supports_edge : Quotient → ℕ → ℕ → Bool
supports_edge q u v = supports_block q.supports (at q.blocks.block_of u) (at q.blocks.block_of v)

-- the ends of those of the edges that lead between blocks without support
abbrev pub unsupported_ends : Quotient → List (ℕ × ℕ) → List ℕ
unsupported_ends q [] = []
unsupported_ends q (e ∷ es) = node_if (not (supports_edge q e.0 e.1)) e.1 ++ unsupported_ends q es

-- in the graph, a node in the block of u is a parent of v
abbrev pub KeepsParentBlock : Graph → List (Option ℕ) → ℕ → ℕ → Type 0
KeepsParentBlock g2 p u v = (z : ℕ) × IsTrue (has_edge g2 z v) × Together p u z

-- Edges that go, among them each of which the end is a node of the next graph and no longer has a parent in the block of its
-- beginning.
pub record AreUnkept (g2 : Graph) (p : List (Option ℕ)) (lost left : List (ℕ × ℕ)) : Type 0 where
  -- each is an edge that goes
  pub among : (u v : ℕ) → IsTrue (has_pair left u v) → IsTrue (has_pair lost u v)
  -- each other edge that goes, if its end is a node afterwards, leaves it a parent in the block of its beginning
  pub others : (u v : ℕ) → IsTrue (has_pair lost u v) → IsTrue (is_live g2 v) → IsTrue (has_pair left u v) ⊎ KeepsParentBlock g2 p u v

-- the parents of ends of these edges were read, of each once
pub record HaveRead (a : Pending) (lost : List (ℕ × ℕ)) (read : List ℕ) (steps steps2 : ℕ) : Type 0 where
  -- no node stands twice
  pub once : IsDistinct nat_eq read
  -- each is a node of the graph after the change
  pub live : (n : ℕ) → IsTrue (has read n) → IsTrue (is_live (graph_after a) n)
  -- each is the end of one of these edges
  pub ends : (n : ℕ) → IsTrue (has read n) → (u : ℕ) × IsTrue (has_pair lost u n)
  -- no more steps are counted than it takes to read their parents once
  pub cost : steps2 ≤ steps + sum_by (parents_cost a.before (graph_after a)) read

-- so many steps were taken for some of these ends
abbrev pub HasRead : Pending → List (ℕ × ℕ) → ℕ → ℕ → Type 0
HasRead a lost steps steps2 = (read : List ℕ) × HaveRead a lost read steps steps2

-- the parents of a node were read for the first time, or none
pub data ReadsOne (a : Pending) (v : ℕ) (read read2 : List ℕ) (steps steps2 : ℕ) : Type 0 where
  none : read2 ≡ read → steps2 ≡ steps → ReadsOne a v read read2 steps steps2
  one : IsTrue (is_live (graph_after a) v) → has read v ≡ false → read2 ≡ read ++ v ∷ [] → steps2 ≤ steps + parents_cost a.before (graph_after a) v
      → ReadsOne a v read read2 steps steps2

-- The nodes that come, those that get another label, the ends of edges that are left of those that go, and those that get a parent in
-- a block without support.
abbrev pub unsteady_nodes : Quotient → Graph → EffectLists → List (ℕ × ℕ) → List ℕ
unsteady_nodes q g2 e left = ((e.came ++ e.relabelled) ++ live_ends Parents g2 left) ++ unsupported_ends q e.added

-- These are the nodes, where the ends of edges that go are left out that keep a parent in the same block.
pub record AreUnsteadyBy (q : Quotient) (g2 : Graph) (e : EffectLists) (list : List ℕ) : Type 0 where
  -- edges that go
  pub left : List (ℕ × ℕ)
  -- each that goes and leaves its end no parent in that block is among them
  pub unkept : AreUnkept g2 q.blocks.block_of e.lost left
  -- the list has the nodes that come or get another label, the ends of these edges, and ends of new edges without support
  pub same : (n : ℕ) → has list n ≡ has (unsteady_nodes q g2 e left) n
