-- The picture of an index as a text for Graphviz. A block is a box, and each line ends with LF.
use Rattle.std.specs.Prelude.{ℕ, ◌*◌, ◌-◌, ◌%◌, ◌∷◌, ◌++◌, ◌&&◌, Bool, List, [], if◌then◌else◌, length, take, drop, nat_eq, nat_lt, position, unwrap_or, slice_index_or, codes, decimal}
use Rattle.std.specs.List.{flat_map}
use Rattle.graph_spec.specs.Graphs.{Graph, has_edge}
use Rattle.graph_spec.specs.Words.{node_word}
use Rattle.block_partition.specs.LabelledPartitions.{Partition, is_member}
use Rattle.quotient.specs.Quotients.{Quotient, pair_count}
use Rattle.index_picture.specs.declared.blocks.Block.{Block}
use Rattle.index_picture.specs.declared.pairs.Pair.{Pair}
use Rattle.index_picture.specs.QuotedTexts.{quoted}
use Rattle.index_picture.specs.ShownNames.{short_label, node_name}
use Rattle.index_picture.specs.DrawnBlocks.{blocks_of, drawn_blocks, drawn_pairs, firsts_below, covers, labels_used}

-- twelve pale colours, of seven bytes each
abbrev pub palette : List ℕ
palette = codes "#cfe2f3#fce5cd#d9ead3#ead1dc#fff2cc#d9d2e9#d0e0e3#f4cccc#e2f0d9#ddebf7#ededed#fde9d9"

-- the colour of the label in the n-th place; past the twelfth they come again
abbrev pub colour_at : ℕ → List ℕ
colour_at n = take 7 (drop (n % 12 * 7) palette)

-- the colour of a label, by its place among those used; the first colour where it has none
abbrev pub colour_of : List ℕ → ℕ → List ℕ
colour_of used l = colour_at (unwrap_or (position (nat_eq l) used) 0)

-- the text of a label, by its number
abbrev pub label_text : List (List ℕ) → ℕ → List ℕ
label_text texts l = slice_index_or texts l []

-- how many nodes a block has, as a line of its box; no line if it has one
abbrev pub count_text : ℕ → List ℕ
count_text count = if nat_eq count 1 then [] else codes "\\n" ++ (quoted (decimal count) ++ codes " nodes")

-- the names of nodes, each behind a comma and a space
abbrev pub others_text : List (List ℕ) → List ℕ → List ℕ
others_text names ns = flat_map (λ n. codes ", " ++ quoted (node_name names n)) ns

-- the first nodes, as a line of the box
abbrev pub members_text : List (List ℕ) → List ℕ → List ℕ
members_text names [] = []
members_text names (n ∷ ns) = codes "\\n" ++ (quoted (node_name names n) ++ others_text names ns)

-- how many nodes there are beside those
abbrev pub more_text : ℕ → ℕ → List ℕ
more_text count shown = if nat_lt shown count then codes " and " ++ (quoted (decimal (count - shown)) ++ codes " more") else []

-- the nodes of a block, of which at most `most` are shown
abbrev pub nodes_text : List (List ℕ) → ℕ → List ℕ → List ℕ
nodes_text names count shown = members_text names shown ++ more_text count (length shown)

-- what the box of a block says: the end of its label, the number of its nodes, and the first of them
abbrev pub box_text : List (List ℕ) → List (List ℕ) → ℕ → Partition → Block → List ℕ
box_text texts names most p b =
    quoted (short_label (label_text texts b.label)) ++ (count_text b.count
    ++ nodes_text names b.count (firsts_below most (is_member p b.number) (length p.block_of)))

-- the front of a block's line: its name, which is that of its least node, and what its box says
abbrev pub block_front : List (List ℕ) → List (List ℕ) → ℕ → Partition → Block → List ℕ
block_front texts names most p b = codes "  \"" ++ (quoted (node_word b.first) ++ (codes "\" [label=\"" ++ box_text texts names most p b))

-- the rest of it: the whole label as its tooltip, and the colour of the label
abbrev pub block_back : List (List ℕ) → List ℕ → Block → List ℕ
block_back texts used b =
    codes "\" tooltip=\"" ++ (quoted (label_text texts b.label) ++ (codes "\" fillcolor=\"" ++ (quoted (colour_of used b.label) ++ codes "\"];\n")))

-- the line of a block
abbrev pub block_line : List (List ℕ) → List (List ℕ) → ℕ → Partition → List ℕ → Block → List ℕ
block_line texts names most p used b = block_front texts names most p b ++ block_back texts used b

-- for how many edges a pair stands; nothing if it is one
abbrev pub support_text : ℕ → List ℕ
support_text n = if nat_eq n 1 then [] else codes " [label=\"" ++ (quoted (decimal n) ++ codes "\"]")

-- dashed, unless each node of the lower block has a parent in the upper one
abbrev pub dash_text : Bool → List ℕ
dash_text covered = if covered then [] else codes " [style=dashed]"

-- the names of two blocks, with an arrow
abbrev pub arrow_text : Pair → List ℕ
arrow_text r = codes "  \"" ++ (quoted (node_word r.from.first) ++ (codes "\" -> \"" ++ (quoted (node_word r.onto.first) ++ codes "\"")))

-- the line of a pair of blocks
abbrev pub pair_line : (ℕ → ℕ → Bool) → Partition → Pair → List ℕ
pair_line edge p r = arrow_text r ++ (support_text r.support ++ (dash_text (covers edge p.block_of r.from.number r.onto.number) ++ codes ";\n"))

-- how many blocks and pairs aren't drawn, as a line
abbrev pub left_text : ℕ → ℕ → List ℕ
left_text blocks pairs =
    codes "  \"note\" [shape=plaintext style=\"\" label=\"not drawn: "
    ++ (quoted (decimal blocks) ++ (codes " smaller blocks, " ++ (quoted (decimal pairs) ++ codes " pairs of blocks\"];\n")))

-- whether all are drawn
abbrev pub is_whole : ℕ → ℕ → Bool
is_whole blocks pairs = nat_eq blocks 0 && nat_eq pairs 0

-- that line; none if all are drawn
abbrev pub note_line : ℕ → ℕ → List ℕ
note_line blocks pairs = if is_whole blocks pairs then [] else left_text blocks pairs

-- the line that opens the graph, and how it, its boxes and its edges look
abbrev pub head_text : List ℕ
head_text =
    codes "digraph pathindex {\n  rankdir=TB; nodesep=0.25; ranksep=0.45;\n"
    ++ (codes "  node [fontname=\"Helvetica\" fontsize=11 shape=box style=\"filled,rounded\" penwidth=0.8 margin=\"0.12,0.06\"];\n"
    ++ codes "  edge [fontname=\"Helvetica\" fontsize=9 arrowsize=0.7 color=\"#555555\"];\n")

-- the line that closes the graph
abbrev pub tail_text : List ℕ
tail_text = codes "}\n"

-- the lines of blocks
abbrev pub block_lines : List (List ℕ) → List (List ℕ) → ℕ → Partition → List Block → List ℕ
block_lines texts names most p bs = flat_map (block_line texts names most p (labels_used bs)) bs

-- the lines of pairs
abbrev pub pair_lines : (ℕ → ℕ → Bool) → Partition → List Pair → List ℕ
pair_lines edge p rs = flat_map (pair_line edge p) rs

-- The picture in which these blocks and pairs are drawn, and so many aren't: a line for each of them.
abbrev pub drawn_text : Graph → Quotient → List (List ℕ) → ℕ → List Block → List Pair → ℕ → ℕ → List ℕ
drawn_text g q names most_members bs rs blocks pairs =
    head_text ++ ((block_lines g.seen names most_members q.blocks bs ++ pair_lines (has_edge g) q.blocks rs) ++ (note_line blocks pairs ++ tail_text))

-- The picture of an index of a graph, in which at most so many blocks are drawn, by rising least nodes, and as many nodes of each
-- are named.
abbrev pub dot_text : Graph → Quotient → List (List ℕ) → ℕ → ℕ → List ℕ
dot_text g q names most_blocks most_members =
    drawn_text g q names most_members (drawn_blocks most_blocks q.blocks) (drawn_pairs most_blocks q)
    (length (blocks_of q.blocks) - length (drawn_blocks most_blocks q.blocks)) (pair_count q.supports - length (drawn_pairs most_blocks q))
