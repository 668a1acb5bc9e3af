-- Axes as contracts see them.
use Rattle.branch_spec.specs.Trees as tree
use Rattle.branch_expr.specs.declared.axis.Axis.{Axis}
use Rattle.branch_expr.specs.declared.axis.Axis.TheVariants.{Child, Below, Parent, Above}

-- the axis that the code's axis stands for
abbrev pub axis_of : Axis → tree.Axis
axis_of Child = tree.child
axis_of Below = tree.below
axis_of Parent = tree.parent
axis_of Above = tree.above

-- the axis that leads back
abbrev pub turned : tree.Axis → tree.Axis
turned tree.child = tree.parent
turned tree.below = tree.above
turned tree.parent = tree.child
turned tree.above = tree.below
