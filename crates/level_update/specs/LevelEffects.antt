-- What is drafted at a level of a family for the effects of a change, whatever its steps.
use Rattle.std.specs.Prelude.{⊤, ◌≡◌, ℕ, zero, suc, ◌+◌, ◌<◌, ◌≤◌, ◌^◌, ◌&&◌, ◌||◌, not, nat_eq, Bool, List, [], ◌∷◌, ◌++◌, length, Option, Some, None, IsTrue, IsFalse}
use Rattle.std.specs.FinSet as set
use Rattle.graph_spec.specs.Graphs.{Graph, IsGraph}
use Rattle.graph_spec.specs.Shapes.{IsNode, shape_of}
use Rattle.graph_spec.specs.Members.{at, has}
use Rattle.label_graph.specs.GraphViews.{label_number}
use Rattle.bisim_spec.specs.declared.sides.Sides.{Sides}
use Rattle.bisim_spec.specs.Partitions.{IsPartition}
use Rattle.bisim_spec.specs.IndexGraphs.{support_at}
use Rattle.one_spec.specs.BlockLabels.{BlocksHaveLabelsBut}
use Rattle.one_spec.specs.EdgeCounts.{AreEdgeCounts}
use Rattle.graph_update.specs.PendingChanges.{Pending, graph_after}
use Rattle.graph_effects.specs.Effects.{EffectLists, without_edges, with_edges}
use Rattle.graph_effects.specs.EffectBlocks.{HaveNodesMoved}
use Rattle.quotient.specs.QuotientNeighbours.{RaisesPair, LowersPair}
use Rattle.quotient_draft.specs.Drafts.{PutsNode}
use Rattle.keyed_quotient.specs.KeyedQuotients.{KeyedQuotient, key_at}
use Rattle.keyed_quotient.specs.Changes.{KeyedChanges}
use Rattle.level_spec.specs.Keyed.{IsKeyed, KeysStay, AreLabelled, IsLevelOf, LabelsGoUp}
use Rattle.ak_family.specs.Families.{level_at, blocks_at}
use Rattle.ak_family.specs.LevelDrafts.{blocks_shown, labels_shown, support_shown, key_shown, AreOver, KeepsAllButSupports, ShowsBlock}
use Rattle.level_update.specs.Placed.{LabelsKept}

-- a block that has this key has this label
abbrev pub KeyHasLabel : (ℕ → Option (List ℕ)) → List (Option ℕ) → List ℕ → ℕ → Type 0
KeyHasLabel keys labels key label = (b : ℕ) → keys b ≡ Some key → at labels b ≡ Some label

-- the number with which the key of a node begins: its label at the lowest level, and above it its block one level below
abbrev pub own_number : List KeyedQuotient → List KeyedChanges → ℕ → ℕ → ℕ → Option ℕ
own_number f d label n zero = Some label
own_number f d label n (suc i) = at (blocks_shown f d i) n

-- Each level is one of the graph. A key is a label at the lowest level, and above it begins with a block one level below
-- that has the same label.
pub record AreBases (g : Graph) (f : List KeyedQuotient) : Type 0 where
  -- each level shows a partition of the graph, with the labels of members and the numbers of edges
  pub levels : (i : ℕ) → i < length f → IsLevelOf g (blocks_at f i) (level_at f i).quotient.blocks.labels (support_at (level_at f i).quotient.supports)
  -- at the lowest level a key is the label of its block
  pub lowest : AreLabelled (level_at f 0).quotient.blocks.labels (key_at (level_at f 0).keys)
  -- above it a block has the label of the block one level below with which its key begins
  pub up : (i : ℕ) → i + 1 < length f
      → LabelsGoUp (level_at f i).quotient.blocks.labels (level_at f (i + 1)).quotient.blocks.labels (key_at (level_at f (i + 1)).keys)

-- above the lowest level each node is in the block of its key
pub record AreKeyedBases (sides : Sides) (g : Graph) (f : List KeyedQuotient) : Type 0 where
  -- at each level above the lowest, the block of a node has the key that the node has over the level below
  pub keyed : (i n : ℕ) → i + 1 < length f → IsKeyed sides (shape_of g) (blocks_at f i) (blocks_at f (i + 1)) (key_at (level_at f (i + 1)).keys) n

-- the family is that of the first graph, which has few numbers, and the second has few edges
pub record AreLevelsBefore (g g2 : Graph) (f : List KeyedQuotient) : Type 0 where
  -- each level is one of the first graph
  pub bases : AreBases g f
  -- there is a level
  pub some : 0 < length f
  -- both are graphs
  pub graph : IsGraph g
  pub graph_after : IsGraph g2
  -- the second one has at most 2^30 edges
  pub few : set.len g2.edges ≤ 2 ^ 30
  -- the first one has at most 2^30 numbers
  pub small : length g.allocated ≤ 2 ^ 30

-- The key of a block begins as it must: at the lowest level it is the label, and above it begins with a block one level
-- below that has the same label.
abbrev pub KeysBegin : List KeyedQuotient → List KeyedChanges → ℕ → Type 0
KeysBegin f d zero = AreLabelled (labels_shown f d 0) (key_shown f d 0)
KeysBegin f d (suc i) = LabelsGoUp (labels_shown f d i) (labels_shown f d (suc i)) (key_shown f d (suc i))

-- Above the lowest level the node is in a block whose key is its block one level below alone.
abbrev pub HasOwnKey : List KeyedQuotient → List KeyedChanges → ℕ → ℕ → Type 0
HasOwnKey f d zero n = ⊤
HasOwnKey f d (suc i) n =
    (number : ℕ) × (b : ℕ) × (at (blocks_shown f d i) n ≡ Some number) × (at (blocks_shown f d (suc i)) n ≡ Some b)
    × (key_shown f d (suc i) b ≡ Some (number ∷ []))

-- A level on the way to the graph g2: some nodes have come and gone, and supports count the edges of the graph h.
-- Blocks of the base keep their labels and keys, all keys begin as they must, and nodes that have come are in the
-- blocks of their own numbers.
pub record IsLevelOnWay (g2 h : Graph) (came gone : List ℕ) (f : List KeyedQuotient) (d : List KeyedChanges) (i : ℕ) : Type 0 where
  -- the draft is over the family
  pub over : AreOver f d
  -- keys begin as they must
  pub begin : KeysBegin f d i
  -- blocks of the base keep their keys
  pub stay : KeysStay (key_at (level_at f i).keys) (key_shown f d i)
  -- and their labels
  pub labels : LabelsKept (level_at f i).quotient.blocks.labels (labels_shown f d i)
  -- nodes that have come are in blocks with their labels, those that have gone are in none, all others are where they were
  pub nodes : HaveNodesMoved g2 (blocks_at f i) (blocks_shown f d i) (at (labels_shown f d i)) came gone
  -- each node that has come is in the block of its own number
  pub own : (n : ℕ) → IsTrue (has came n) → HasOwnKey f d i n
  -- the support of a pair of blocks is the number of edges of h from the one to the other
  pub supports : AreEdgeCounts h (blocks_shown f d i) (support_shown f d i)

-- the nodes that are put into the blocks of their own numbers: those that come, and those that get another label
abbrev pub lone_nodes : EffectLists → List ℕ
lone_nodes e = e.came ++ e.relabelled

-- whether the node gets another label, and isn't among those that have been moved for it
abbrev pub is_unmoved : EffectLists → List ℕ → ℕ → Bool
is_unmoved e moved n = has e.relabelled n && not (has moved n)

-- The level shows the graph g2, but a node that gets another label and hasn't been moved may be in a block that has its
-- old one. Nodes that have come or been moved are in the blocks of their own numbers, and all others in the blocks in
-- which they were.
pub record IsLevelRelabelled (e : EffectLists) (moved : List ℕ) (g2 : Graph) (f : List KeyedQuotient) (d : List KeyedChanges) (i : ℕ) : Type 0 where
  -- the draft is over the family
  pub over : AreOver f d
  -- exactly the nodes of g2 have a block
  pub partition : IsPartition (shape_of g2) (blocks_shown f d i)
  -- each node has the label of its block, unless it gets another label and hasn't been moved
  pub block_labels : BlocksHaveLabelsBut (is_unmoved e moved) (blocks_shown f d i) (at (labels_shown f d i)) (label_number g2)
  -- the support of a pair of blocks is the number of edges of g2 from the one to the other
  pub supports : AreEdgeCounts g2 (blocks_shown f d i) (support_shown f d i)
  -- keys begin as they must
  pub begin : KeysBegin f d i
  -- blocks of the base keep their keys
  pub stay : KeysStay (key_at (level_at f i).keys) (key_shown f d i)
  -- and their labels
  pub labels : LabelsKept (level_at f i).quotient.blocks.labels (labels_shown f d i)
  -- each node that has come or been moved is in the block of its own number
  pub own : (n : ℕ) → IsTrue (has e.came n || has moved n) → HasOwnKey f d i n
  -- each other node is where it was
  pub far : (n : ℕ) → IsNode (shape_of g2) n → IsFalse (has e.came n || has moved n) → at (blocks_shown f d i) n ≡ at (blocks_at f i) n

-- The level shows the graph g2, with these nodes in the blocks of their own numbers, and all others in the blocks in
-- which they were.
pub record IsLevelDrafted (lone : List ℕ) (g2 : Graph) (f : List KeyedQuotient) (d : List KeyedChanges) (i : ℕ) : Type 0 where
  -- the level shows g2, with the labels of members and the numbers of edges
  pub level : IsLevelOf g2 (blocks_shown f d i) (labels_shown f d i) (support_shown f d i)
  -- keys begin as they must
  pub begin : KeysBegin f d i
  -- blocks of the base keep their keys
  pub stay : KeysStay (key_at (level_at f i).keys) (key_shown f d i)
  -- and their labels
  pub labels : LabelsKept (level_at f i).quotient.blocks.labels (labels_shown f d i)
  -- each of these nodes is in the block of its own number
  pub own : (n : ℕ) → IsTrue (has lone n) → HasOwnKey f d i n
  -- each other node is where it was
  pub far : (n : ℕ) → IsNode (shape_of g2) n → IsFalse (has lone n) → at (blocks_shown f d i) n ≡ at (blocks_at f i) n

-- the level below, where there is one, is drafted
abbrev pub IsDraftedBelow : List ℕ → Graph → List KeyedQuotient → List KeyedChanges → ℕ → Type 0
IsDraftedBelow lone g2 f d zero = ⊤
IsDraftedBelow lone g2 f d (suc i) = IsLevelDrafted lone g2 f d i

-- each level is drafted
pub record AreLevelsDrafted (lone : List ℕ) (g2 : Graph) (f : List KeyedQuotient) (d : List KeyedChanges) : Type 0 where
  -- the draft is over the family
  pub over : AreOver f d
  -- each level shows g2, with these nodes in the blocks of their own numbers
  pub each : (i : ℕ) → i < length f → IsLevelDrafted lone g2 f d i

-- on the way, once the edges that go have been taken out of the supports
abbrev pub HasEdgesLowered : Pending → EffectLists → List KeyedQuotient → List KeyedChanges → ℕ → Type 0
HasEdgesLowered a e f d i = IsLevelOnWay (graph_after a) (without_edges a.before e.lost) e.came [] f d i

-- then, once the nodes that go have no blocks
abbrev pub HasNodesLeft : Pending → EffectLists → List KeyedQuotient → List KeyedChanges → ℕ → Type 0
HasNodesLeft a e f d i = IsLevelOnWay (graph_after a) (without_edges a.before e.lost) e.came e.gone f d i

-- then, once the edges that come have been added to the supports
abbrev pub HasEdgesRaised : Pending → EffectLists → List KeyedQuotient → List KeyedChanges → ℕ → Type 0
HasEdgesRaised a e f d i = IsLevelOnWay (graph_after a) (with_edges (without_edges a.before e.lost) e.added) e.came e.gone f d i

-- Whether nodes keep the keys with which the effects are drafted: no edge comes or goes and no node gets another label,
-- or there are no ends at which the graph is altered.
abbrev pub keeps_keys : List ℕ → EffectLists → Bool
keeps_keys ends e = nat_eq (length ends) 0 || ((nat_eq (length e.lost) 0 && nat_eq (length e.added) 0) && nat_eq (length e.relabelled) 0)

-- the node is in a block of the level with this label, whose key is this number alone
pub record IsNodeAdded (f : List KeyedQuotient) (i n label number : ℕ) (d d2 : List KeyedChanges) : Type 0 where
  -- the block of the node
  pub block : ℕ
  -- the node is in it, and each other node is where it was
  pub blocks : PutsNode n (Some block) (blocks_shown f d i) (blocks_shown f d2 i)
  -- its key is this number alone; where no block had that key, it was made with this label
  pub has_block : ShowsBlock f i d d2 label (number ∷ []) block
  -- it has this label
  pub label_is : at (labels_shown f d2 i) block ≡ Some label
  -- the draft is still over the family
  pub over : AreOver f d2

-- the node has no block at the level, and nothing else has changed
pub record IsNodeLeft (f : List KeyedQuotient) (i n : ℕ) (d d2 : List KeyedChanges) : Type 0 where
  -- the node has no block, and each other node is where it was
  pub blocks : PutsNode n None (blocks_shown f d i) (blocks_shown f d2 i)
  -- labels, keys and supports are as before
  pub labels : labels_shown f d2 i ≡ labels_shown f d i
  pub keys : (b : ℕ) → key_shown f d2 i b ≡ key_shown f d i b
  pub supports : (x y : ℕ) → support_shown f d2 i x y ≡ support_shown f d i x y
  -- the draft is still over the family
  pub over : AreOver f d2

-- at the level one edge fewer leads from the block of u to that of v, and nothing else has changed
pub record IsEdgeLowered (f : List KeyedQuotient) (i u v : ℕ) (d d2 : List KeyedChanges) : Type 0 where
  -- the blocks of u and of v
  pub first : ℕ
  pub second : ℕ
  -- u is in the first, v in the second
  pub from : at (blocks_shown f d i) u ≡ Some first
  pub onto : at (blocks_shown f d i) v ≡ Some second
  -- the support of this pair is one less, and all others are as before
  pub lowered : LowersPair first second (support_shown f d i) (support_shown f d2 i)
  -- nothing but supports of this level has changed
  pub kept : KeepsAllButSupports f i d d2

-- at the level one edge more leads from the block of u to that of v, and nothing else has changed
pub record IsEdgeRaised (f : List KeyedQuotient) (i u v : ℕ) (d d2 : List KeyedChanges) : Type 0 where
  -- the blocks of u and of v
  pub first : ℕ
  pub second : ℕ
  -- u is in the first, v in the second
  pub from : at (blocks_shown f d i) u ≡ Some first
  pub onto : at (blocks_shown f d i) v ≡ Some second
  -- the support of this pair is one more, and all others are as before
  pub raised : RaisesPair first second (support_shown f d i) (support_shown f d2 i)
  -- nothing but supports of this level has changed
  pub kept : KeepsAllButSupports f i d d2

-- where both nodes have blocks at the level, that of u has support to that of v
abbrev pub HaveSupport : List KeyedQuotient → List KeyedChanges → ℕ → ℕ → ℕ → Type 0
HaveSupport f d i u v = (x y : ℕ) → at (blocks_shown f d i) u ≡ Some x → at (blocks_shown f d i) v ≡ Some y → 0 < support_shown f d i x y
