-- Sets of nodes.
use Rattle.std.specs.Prelude.{ℕ, ◌↔◌, List, Option, IsTrue, IsSome}
use Rattle.graph_spec.specs.Members.{has}
use Rattle.graph_spec.specs.Shapes.{Shape}
use Rattle.branch_spec.specs.Trees as tree
use Rattle.branch_spec.specs.BranchAnswers.{Along, Passes, Meets}
use Rattle.branch_expr.specs.declared.axis.Axis.{Axis}
use Rattle.branch_expr.specs.Axes.{axis_of}
use Rattle.branch_expr.specs.declared.tree.Hop.{Hop}
use Rattle.branch_expr.specs.QueryTrees.{step_of}

-- the list has just the nodes at which it holds
abbrev pub IsSetOf : (ℕ → Option ℕ) → List ℕ → (ℕ → Type 0) → Type 0
IsSetOf label_at nodes Holds = (v : ℕ) → IsTrue (has nodes v) ↔ (IsSome (label_at v) × Holds v)

-- the hop leads from it to a member of the set
abbrev pub HopsTo : Shape → Hop → List ℕ → ℕ → Type 0
HopsTo s hop set v = (c : ℕ) × Along s.edge (axis_of hop.axis) v c × Meets s (step_of hop.step) c × IsTrue (has set c)

-- an edge leads to it from a node whose label passes
abbrev pub HasPassingParent : Shape → tree.Test → ℕ → Type 0
HasPassingParent s t c = (v : ℕ) × Passes s t v × IsTrue (s.edge v c)

-- the axis leads to it from a node whose label passes
abbrev pub HasPassingSource : Shape → Axis → tree.Test → ℕ → Type 0
HasPassingSource s axis t c = (v : ℕ) × Passes s t v × Along s.edge (axis_of axis) v c
