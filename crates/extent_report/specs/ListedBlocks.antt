-- The blocks of a relation on the nodes of a graph, as they are printed. Each printed line ends with LF (10).
use Rattle.std.specs.Prelude.{ℕ, zero, suc, ◌+◌, ◌∷◌, ◌++◌, ◌&&◌, not, Bool, List, [], is_some, unwrap_or, if◌then◌else◌, codes, decimal, Decides}
use Rattle.graph_spec.specs.Shapes.{Shape}
use Rattle.graph_spec.specs.Words.{node_word}
use Rattle.index_api.specs.declared.kinds.Via.{Via}
use Rattle.index_api.specs.Spelling.{via_word}
use Rattle.bisim_spec.specs.Below.{any_below, count_below}

-- the test decides the relation, at each pair of numbers
abbrev pub DecidesEach : (ℕ → ℕ → Bool) → (ℕ → ℕ → Type 0) → Type 0
DecidesEach r R = (u v : ℕ) → Decides (r u v) (R u v)

-- what is written for the numbers below the bound, the least first
abbrev pub texts_below : ℕ → (ℕ → List ℕ) → List ℕ
texts_below zero f = []
texts_below (suc n) f = texts_below n f ++ f n

-- how many pairs of numbers below the bounds pass
abbrev pub pairs_below : ℕ → ℕ → (ℕ → ℕ → Bool) → ℕ
pairs_below zero m p = 0
pairs_below (suc n) m p = count_below m (p n) + pairs_below n m p

-- whether m is a node to which n is related
abbrev pub is_related : Shape → (ℕ → ℕ → Bool) → ℕ → ℕ → Bool
is_related s r n m = is_some (s.label m) && r n m

-- whether n is a node that is related to no smaller one: the first node of its block
abbrev pub is_first : Shape → (ℕ → ℕ → Bool) → ℕ → Bool
is_first s r n = is_some (s.label n) && not (any_below n (is_related s r n))

-- how many blocks there are
abbrev pub block_total : Shape → (ℕ → ℕ → Bool) → ℕ
block_total s r = count_below s.size (is_first s r)

-- the text of a node's label
abbrev pub label_text : Shape → ℕ → List ℕ
label_text s n = unwrap_or (s.label n) []

-- the line of a node's block: the label, and then its nodes, rising, each behind a space (32)
abbrev pub block_line : Shape → (ℕ → ℕ → Bool) → ℕ → List ℕ
block_line s r n = label_text s n ++ texts_below s.size (λ m. if is_related s r n m then 32 ∷ node_word m else []) ++ 10 ∷ []

-- how many blocks there are, and then the line of each block, by rising first nodes
abbrev pub extents_text : Shape → (ℕ → ℕ → Bool) → List ℕ
extents_text s r =
    codes "blocks " ++ decimal (block_total s r) ++ 10 ∷ texts_below s.size (λ n. if is_first s r n then block_line s r n else [])

-- whether an edge leads from a node of the block of u to a node of the block of v
abbrev pub are_adjacent : Shape → (ℕ → ℕ → Bool) → ℕ → ℕ → Bool
are_adjacent s r u v = any_below s.size (λ x. is_related s r u x && any_below s.size (λ y. is_related s r v y && s.edge x y))

-- how many pairs of blocks are adjacent, each block by its first node
abbrev pub adjacent_total : Shape → (ℕ → ℕ → Bool) → ℕ
adjacent_total s r = pairs_below s.size s.size (λ u v. is_first s r u && (is_first s r v && are_adjacent s r u v))

-- how many nodes and edges a graph has
abbrev pub head_line : ℕ → ℕ → List ℕ
head_line nodes edges = codes "nodes " ++ decimal nodes ++ codes " edges " ++ decimal edges ++ 10 ∷ []

-- how many blocks an index has, and how many edges join them
abbrev pub size_line : Via → ℕ → ℕ → List ℕ
size_line via blocks edges = via_word via ++ codes " blocks " ++ decimal blocks ++ codes " edges " ++ decimal edges ++ 10 ∷ []
