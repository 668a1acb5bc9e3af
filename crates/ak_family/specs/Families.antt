-- Families of levels of bisimilarity of a graph: by parents the A(0)- to A(k)-indexes (R. Kaushik, P. Shenoy, P.
-- Bohannon and E. Gudes, "Exploiting Local Similarity for Indexing Paths in Graph-Structured Data", ICDE 2002), by
-- parents and children the bounded forward and backward indexes (R. Kaushik, P. Bohannon, J. Naughton and H. Korth,
-- "Covering Indexes for Branching Path Queries", SIGMOD 2002).
use Rattle.std.specs.Prelude.{ℕ, ◌≡◌, ◌+◌, ◌<◌, ◌≤◌, List, [], length, Option, Some, is_some, map, slice_index_or}
use Rattle.graph_spec.specs.Graphs.{Graph}
use Rattle.graph_spec.specs.Shapes.{shape_of}
use Rattle.graph_spec.specs.Members.{at}
use Rattle.label_graph.specs.GraphViews.{label_number}
use Rattle.bisim_levels.specs.NeighbourSides.{no_neighbours}
use Rattle.bisim_levels.specs.Numbering.{AreNumbered, AreNumberedBy}
use Rattle.bisim_spec.specs.IndexGraphs.{support_at}
use Rattle.quotient.specs.Quotients.{Quotient}
use Rattle.keyed_quotient.specs.KeyedQuotients.{KeyedQuotient, no_level, key_at, AreKeyed}
use Rattle.keyed_quotient.specs.Changes.{AreInhabited}
use Rattle.level_spec.specs.Keyed.{AreLabelled}
use Rattle.bisim_spec.specs.declared.sides.Sides.{Sides}
use Rattle.bisim_levels.specs.SidedKeys.{IsSidedKey}
use Rattle.level_spec.specs.Supported.{IsKeyedBySupports}

-- a level of the family, and one without blocks past its end
abbrev pub level_at : List KeyedQuotient → ℕ → KeyedQuotient
level_at levels i = slice_index_or levels i no_level

-- the blocks of the nodes at a level
abbrev pub blocks_at : List KeyedQuotient → ℕ → List (Option ℕ)
blocks_at levels i = (level_at levels i).quotient.blocks.block_of

-- the quotient of each level
abbrev pub quotients_of : List KeyedQuotient → List Quotient
quotients_of levels = map (λ l. l.quotient) levels

-- The blocks of the lowest level are numbered by the labels of their members: a key is the number of a label, alone.
abbrev pub AreLabelKeys : Graph → List KeyedQuotient → Type 0
AreLabelKeys g levels = AreNumbered (label_number g) [] no_neighbours (blocks_at levels 0) (key_at (level_at levels 0).keys)

-- The blocks one level above i are numbered by the keys of their members: a node's own block at level i, and then the
-- numbers for the blocks around it at level i, on the sides that count, rising, each once.
abbrev pub AreNeighbourKeys : Sides → Graph → List KeyedQuotient → ℕ → Type 0
AreNeighbourKeys sides g levels i =
    AreNumberedBy (at (blocks_at levels i)) (IsSidedKey sides (shape_of g) (blocks_at levels i)) (blocks_at levels (i + 1))
    (key_at (level_at levels (i + 1)).keys)

-- Above the lowest level the keys are as the blocks one level below and the supports say: exactly the nodes have a
-- block that have one below, and the key of each block with members begins with the block below of each of them.
pub record AreKeyedBySupports (sides : Sides) (below block : List (Option ℕ)) (key : ℕ → Option (List ℕ)) (support : ℕ → ℕ → ℕ) : Type 0 where
  -- a node has a block exactly if it has one below
  pub nodes : (n : ℕ) → is_some (at block n) ≡ is_some (at below n)
  -- the key of its block begins with its block below, and has the numbers of the blocks with support
  pub keyed : (n b : ℕ) → at block n ≡ Some b → IsKeyedBySupports sides (at below n) key support b

-- the keys of the levels above the lowest are as the supports say
pub record HaveSupportedKeys (sides : Sides) (levels : List KeyedQuotient) : Type 0 where
  -- the key of a block has its block one level below, and those of the blocks that it has support with
  pub above : (i : ℕ) → i + 1 < length levels
      → AreKeyedBySupports sides (blocks_at levels i) (blocks_at levels (i + 1)) (key_at (level_at levels (i + 1)).keys)
      (support_at (level_at levels (i + 1)).quotient.supports)

-- each block of each level has a member
abbrev pub HaveMembers : List KeyedQuotient → Type 0
HaveMembers levels = (i : ℕ) → i < length levels → AreInhabited (level_at levels i).quotient.blocks.labels (blocks_at levels i)

-- What each family keeps, whatever graph it is of, and whichever sides count: exactly the blocks of each level have
-- keys, no two the same, each block has a member, and the keys of the lowest level are its labels.
pub record IsKeyedFamily (levels : List KeyedQuotient) : Type 0 where
  -- exactly the blocks of a level have keys, each its own
  pub keyed : (i : ℕ) → i < length levels → AreKeyed (level_at levels i).quotient.blocks.labels (key_at (level_at levels i).keys)
  -- each block has a member
  pub inhabited : HaveMembers levels
  -- at the lowest level the key is the label
  pub lowest : AreLabelled (level_at levels 0).quotient.blocks.labels (key_at (level_at levels 0).keys)

-- a family of few levels
pub record IsFamily (levels : List KeyedQuotient) : Type 0 where
  -- there is a level
  pub some : 0 < length levels
  -- there are nine at most
  pub few : length levels ≤ 9
  -- blocks have keys and members
  pub keyed : IsKeyedFamily levels
