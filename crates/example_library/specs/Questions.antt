-- What the program asks, from the text of the triples to the nodes.
use Rattle.std.specs.Prelude.{ℕ, ◌≡◌, List, [], ◌∷◌, Ok}
use Rattle.graph_spec.specs.ProgramLimits.{program_limits}
use Rattle.graph_spec.specs.Graphs.{Graph}
use Rattle.change_spec.specs.Steps.{apply, link}
use Rattle.graph_spec.specs.Shapes.{shape_of}
use Rattle.graph_load.specs.Loads as outcome
use Rattle.path_spec.specs.Trees.{Expr}
use Rattle.path_query.specs.Parsed.{SpellsPath}
use Rattle.branch_query.specs.Queries as query

-- The nodes are those to which the path leads in the graph of the triples once n3 has an edge to n0.
pub record AreAnswersOfTexts (triples path nodes : List ℕ) : Type 0 where
  -- the graph of the triples
  pub graph : Graph
  pub loads : outcome.Loads program_limits triples (outcome.loaded graph)
  -- that graph with the edge
  pub linked : Graph
  pub links : apply (link 3 0 ∷ []) graph program_limits ≡ Ok linked
  -- what the path spells
  pub expr : Expr
  pub spells : SpellsPath path expr
  -- its answers there
  pub answers : query.AreQueryAnswers (shape_of linked) (query.of_path expr) nodes
