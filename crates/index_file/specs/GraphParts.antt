-- What is left of the lines of a graph that are given part by part.
use Rattle.std.specs.Prelude.{ℕ, zero, suc, ◌≡◌, ◌+◌, ◌-◌, ◌∷◌, ◌++◌, List, [], length, drop, codes, decimal}
use Rattle.std.specs.List.{flat_map}
use Rattle.graph_spec.specs.Graphs.{Graph, label_of}
use Rattle.label_graph.specs.GraphViews.{edge_count}
use Rattle.index_file.specs.WrittenFiles.{count_line, node_line, edge_line, edge_lines, edges_from, head_text}
use Rattle.index_file.specs.declared.graph_lines.Stage.{Stage}
use Rattle.index_file.specs.declared.graph_lines.Stage.TheVariants.{Title, Nodes, Edges, Over}
use Rattle.index_file.specs.declared.graph_lines.GraphLines.{GraphLines}

-- what is written for so many numbers, from one on
abbrev pub texts_from : ℕ → ℕ → (ℕ → List ℕ) → List ℕ
texts_from zero n f = []
texts_from (suc m) n f = f n ++ texts_from m (suc n) f

-- the first lines: how many numbers were given, and the highest level
abbrev pub title_text : ℕ → ℕ → List ℕ
title_text n k = codes "pathindex 1" ++ 10 ∷ codes "given " ++ decimal n ++ count_line (codes " k ") k

-- the lines behind those of the edges
abbrev pub views_line : ℕ → List ℕ
views_line views = count_line (codes "views ") views

-- the lines of the numbers from one on, and those behind them
abbrev pub nodes_unwritten : Graph → ℕ → ℕ → List ℕ
nodes_unwritten g views n =
    texts_from (length g.allocated - n) n (λ n. node_line (label_of g n)) ++ (count_line (codes "edges ") (edge_count g) ++ (edge_lines g ++ views_line views))

-- the edges from one node to these, those that begin at the numbers from one on, and the line behind them
abbrev pub edges_unwritten : Graph → ℕ → ℕ → List ℕ → ℕ → List ℕ
edges_unwritten g views from children n = flat_map (edge_line from) children ++ (texts_from (length g.allocated - n) n (edges_from g) ++ views_line views)

-- the lines that are left at a stage
abbrev pub stage_left : Stage → Graph → GraphLines → List ℕ
stage_left Title g l = head_text g l.k l.views
stage_left Nodes g l = nodes_unwritten g l.views l.number
stage_left Edges g l = edges_unwritten g l.views l.from (drop l.given l.children.items) l.number
stage_left Over g l = []

-- the lines that are left
abbrev pub lines_left : Graph → GraphLines → List ℕ
lines_left g l = stage_left l.stage g l

-- how many numbers are left whose edges were not asked for
abbrev pub turns_left : Stage → ℕ → ℕ → ℕ
turns_left Title n number = n
turns_left Nodes n number = n
turns_left Edges n number = n - number
turns_left Over n number = 0

-- how many steps are left at most
abbrev pub steps_left : Graph → GraphLines → ℕ
steps_left g l = length (lines_left g l) + turns_left l.stage (length g.allocated) l.number

-- what was given is the first of what was left, and the rest is left
pub record Gave (before after left rest : List ℕ) : Type 0 where
  -- the lines that were given
  pub lines : List ℕ
  -- they stand behind what was there
  pub given : after ≡ before ++ lines
  -- and in front of the rest
  pub left_is : left ≡ lines ++ rest
