-- How an index file is written. Each line ends with LF (10).
use Rattle.std.specs.Prelude.{ℕ, zero, suc, ◌∷◌, ◌++◌, Bool, List, [], length, Option, None, Some, is_some, if◌then◌else◌, codes, decimal}
use Rattle.graph_spec.specs.Graphs.{Graph, label_of, has_edge}
use Rattle.graph_spec.specs.Shapes.{Shape}
use Rattle.label_graph.specs.GraphViews.{edge_count}
use Rattle.bisim_spec.specs.Below.{any_below, count_below}
use Rattle.index_api.specs.declared.kinds.Via.{Via}
use Rattle.index_api.specs.Spelling.{via_word}
use Rattle.extent_report.specs.ListedBlocks.{texts_below, is_related, is_first}

-- a word and a number
abbrev pub count_line : List ℕ → ℕ → List ℕ
count_line word n = word ++ decimal n ++ 10 ∷ []

-- the line of an allocated number
abbrev pub node_line : Option (List ℕ) → List ℕ
node_line None = codes "gone" ++ 10 ∷ []
node_line (Some t) = codes "live " ++ t ++ 10 ∷ []

-- the line of an edge: where it begins, and where it ends
abbrev pub edge_line : ℕ → ℕ → List ℕ
edge_line u v = decimal u ++ 32 ∷ decimal v ++ 10 ∷ []

-- the lines of the edges that begin at a node, by where they end
abbrev pub edges_from : Graph → ℕ → List ℕ
edges_from g u = texts_below (length g.allocated) (λ v. if has_edge g u v then edge_line u v else [])

-- the lines of all edges, by where they begin, and then by where they end
abbrev pub edge_lines : Graph → List ℕ
edge_lines g = texts_below (length g.allocated) (edges_from g)

-- the lines of all allocated numbers, rising
abbrev pub node_lines : Graph → List ℕ
node_lines g = texts_below (length g.allocated) (λ n. node_line (label_of g n))

-- the graph, with levels up to k, and how many views follow
abbrev pub head_text : Graph → ℕ → ℕ → List ℕ
head_text g k views =
    codes "pathindex 1" ++ 10 ∷ codes "given " ++ decimal (length g.allocated) ++ codes " k " ++ decimal k ++ 10 ∷ node_lines g
    ++ count_line (codes "edges ") (edge_count g) ++ edge_lines g ++ count_line (codes "views ") views

-- the least number below n that passes, and n where none does
abbrev pub least : ℕ → (ℕ → Bool) → ℕ
least zero p = 0
least (suc n) p = if any_below n p then least n p else (if p n then n else suc n)

-- blocks are ranked from 0 on by their first nodes: how many blocks begin before that of a node does
abbrev pub rank_of : Shape → (ℕ → ℕ → Bool) → ℕ → ℕ
rank_of s r n = count_below (least n (is_related s r n)) (is_first s r)

-- the rank of the block of a node, and nothing where the number is no node
abbrev pub rank_line : Shape → (ℕ → ℕ → Bool) → ℕ → List ℕ
rank_line s r n = if is_some (s.label n) then decimal (rank_of s r n) ++ 10 ∷ [] else []

-- the lines of all nodes, by rising numbers
abbrev pub rank_lines : Shape → (ℕ → ℕ → Bool) → List ℕ
rank_lines s r = texts_below s.size (rank_line s r)

-- the blocks of a relation, as the view of an index
abbrev pub view_text : Shape → (ℕ → ℕ → Bool) → Via → List ℕ
view_text s r via = codes "view " ++ via_word via ++ 10 ∷ rank_lines s r

-- the line of a rank, if there is one
abbrev pub rank_text : Option ℕ → List ℕ
rank_text None = []
rank_text (Some rank) = decimal rank ++ 10 ∷ []
