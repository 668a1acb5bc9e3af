-- What is printed of walks that show why a node answers a path expression.
use Rattle.std.specs.Prelude.{ℕ, ◌≡◌, Bool, true, false, List, IsTrue}
use Rattle.graph_spec.specs.declared.refusal.Refusal.TheVariants.{NoNode}
use Rattle.graph_spec.specs.Graphs.{is_live}
use Rattle.graph_spec.specs.Shapes.{Shape, shape_of}
use Rattle.path_spec.specs.Trees.{Expr}
use Rattle.path_spec.specs.PathAnswers.{IsAnswer}
use Rattle.walk_spec.specs.LeastWalks.{Shows, IsLeast}
use Rattle.extent_report.specs.PrintedAnswers.{walk_text}
use Rattle.script_interpreter.specs.LineTexts.{refused_line, none_line, yes_line, no_line}
use Rattle.script_interpreter.specs.States.{State}

-- What `why` prints, and whether that is a refusal: the least of the walks that show why the node answers in the present
-- graph; that it doesn't answer; or that it isn't live.
pub data ShowsWhy (s : State) (v : ℕ) (e : Expr) : List ℕ → Bool → Type 0 where
  shown : (nodes : List ℕ) → IsLeast (shape_of s.graph) e v nodes → ShowsWhy s v e (walk_text nodes) false
  unanswered : IsTrue (is_live s.graph v) → ¬ IsAnswer (shape_of s.graph) e v → ShowsWhy s v e none_line false
  not_live : is_live s.graph v ≡ false → ShowsWhy s v e (refused_line NoNode) true

-- the nodes show why some node answers, which is the last of them
abbrev pub ShowsLast : Shape → Expr → List ℕ → Type 0
ShowsLast s e nodes = (v : ℕ) × Shows s e v nodes

-- what `check` prints: whether the nodes do so in the present graph
pub data ShowsCheck (s : State) (nodes : List ℕ) (e : Expr) : List ℕ → Type 0 where
  right : ShowsLast (shape_of s.graph) e nodes → ShowsCheck s nodes e yes_line
  wrong : ¬ ShowsLast (shape_of s.graph) e nodes → ShowsCheck s nodes e no_line
