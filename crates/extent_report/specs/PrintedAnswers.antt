-- The answer of a query, and a walk, as they are printed. Each printed line ends with LF (10).
use Rattle.std.specs.Prelude.{ℕ, Bool, List, [], ◌∷◌, ◌++◌, length, codes, decimal, map, if◌then◌else◌}
use Rattle.std.specs.List.{join_with_byte}
use Rattle.graph_spec.specs.Words.{node_word}
use Rattle.index_api.specs.declared.answers.How.{How}
use Rattle.index_api.specs.declared.answers.How.TheVariants.{Data, Exact, Checked}

-- how many candidates the index gave, and whether they are the answers or were looked up; nothing of the graph itself
abbrev pub how_text : How → List ℕ
how_text Data = []
how_text (Exact n) = codes " candidates " ++ decimal n ++ codes " exact"
how_text (Checked n) = codes " candidates " ++ decimal n ++ codes " checked"

-- the nodes, parted by one space; no line if there are none
abbrev pub nodes_line : List ℕ → List ℕ
nodes_line [] = []
nodes_line (n ∷ ns) = join_with_byte 32 (map node_word (n ∷ ns)) ++ 10 ∷ []

-- how many answers there are, and how they were found
abbrev pub answer_line : How → ℕ → List ℕ
answer_line how count = codes "answers " ++ decimal count ++ how_text how ++ 10 ∷ []

-- that line, and if it is asked for the answers behind it
abbrev pub answer_text : How → Bool → List ℕ → List ℕ
answer_text how with_nodes nodes = answer_line how (length nodes) ++ (if with_nodes then nodes_line nodes else [])

-- how many nodes the walk has, and these in its order behind that line
abbrev pub walk_text : List ℕ → List ℕ
walk_text nodes = codes "walk " ++ decimal (length nodes) ++ 10 ∷ nodes_line nodes
