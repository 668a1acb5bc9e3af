-- What fits a graph: the views of an index of each kind, level by level. Sources: R. Kaushik, P. Shenoy, P. Bohannon and E.
-- Gudes, ICDE 2002 (the A(k)-index), T. Milo and D. Suciu, ICDT 1999, and K. Yi, H. He, I. Stanoi and J. Yang, SIGMOD 2004 (the
-- 1-index and its minimal partitions), R. Kaushik, P. Bohannon, J. Naughton and H. Korth, SIGMOD 2002 (the forward and
-- backward index, and the bounded ones).
use Rattle.std.specs.Prelude.{⊤, ℕ, ◌+◌, ◌≤◌, ◌<◌, ◌≡◌, List, length, Option, None, Some, slice_index_or}
use Rattle.graph_spec.specs.Graphs.{Graph}
use Rattle.graph_spec.specs.Shapes.{shape_of}
use Rattle.bisim_spec.specs.declared.kind.Kind.{Kind}
use Rattle.bisim_spec.specs.declared.kind.Kind.TheVariants.{A, One, Fb, B}
use Rattle.bisim_spec.specs.declared.sides.Sides.{Sides}
use Rattle.bisim_spec.specs.declared.sides.Sides.TheVariants.{Parents, Both}
use Rattle.bisim_spec.specs.Bisimilarity.{FB}
use Rattle.bisim_spec.specs.Partitions.{Agrees}
use Rattle.bisim_spec.specs.MinimalIndex.{IsMinimalIndex}
use Rattle.bisim_spec.specs.IndexGraphs.{View, ViewFits}
use Rattle.bisim_spec.specs.SidedLevels.{AtLevel}

-- the view of a level; none if it isn't computed, and past the end
abbrev pub view_at : List (Option View) → ℕ → Option View
view_at views i = slice_index_or views i None

-- A view of a family of levels: its blocks are the nodes that are bisimilar to level i by the sides that count. By parents
-- it is one of the A(i)-index, by parents and children one of the bounded forward and backward index.
pub record FitsLevel (sides : Sides) (g : Graph) (i : ℕ) (v : View) : Type 0 where
  -- labels and supports are those of the graph
  pub view : ViewFits g v
  -- exactly the nodes have a block, and two share one exactly where they are bisimilar to level i by these sides
  pub agrees : Agrees (shape_of g) v.block_of (AtLevel sides (shape_of g) i)

-- the kind of these families
abbrev pub kind_of : Sides → Kind
kind_of Parents = A
kind_of Both = B

-- a view of the 1-index, whose partition is minimal
pub record FitsOne (g : Graph) (v : View) : Type 0 where
  -- labels and supports are those of the graph
  pub view : ViewFits g v
  -- the partition is stable, and no two blocks can be merged
  pub index : IsMinimalIndex (shape_of g) v.block_of

-- a view of the forward and backward index: its blocks are the nodes that are bisimilar by parents and children
pub record FitsFb (g : Graph) (v : View) : Type 0 where
  -- labels and supports are those of the graph
  pub view : ViewFits g v
  -- exactly the nodes have a block, and two share one exactly where they are bisimilar by parents and children
  pub agrees : Agrees (shape_of g) v.block_of (FB (shape_of g))

-- What the view of a level must be. Only that of the forward and backward index may be not computed.
abbrev pub FitsAt : Kind → Graph → ℕ → Option View → Type 0
FitsAt A g i None = ⊥
FitsAt A g i (Some v) = FitsLevel Parents g i v
FitsAt One g i None = ⊥
FitsAt One g i (Some v) = FitsOne g v
FitsAt Fb g i None = ⊤
FitsAt Fb g i (Some v) = FitsFb g v
FitsAt B g i None = ⊥
FitsAt B g i (Some v) = FitsLevel Both g i v

-- how many views there may be: a family has one for each level from 0 on, the others have one view
abbrev pub HasCount : Kind → ℕ → Type 0
HasCount A n = 1 ≤ n
HasCount One n = n ≡ 1
HasCount Fb n = n ≡ 1
HasCount B n = 1 ≤ n

-- how many views there are where levels up to k are kept
abbrev pub view_count : Kind → ℕ → ℕ
view_count A k = k + 1
view_count One k = 1
view_count Fb k = 1
view_count B k = k + 1

-- the views of an index of this kind are those of the graph
pub record Fits (kind : Kind) (views : List (Option View)) (g : Graph) : Type 0 where
  -- there are as many views as an index of this kind may have
  pub count : HasCount kind (length views)
  -- each of them is what that of its level must be
  pub each : (i : ℕ) → i < length views → FitsAt kind g i (view_at views i)
