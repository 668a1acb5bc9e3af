use Rattle.graph_spec.specs.Shapes.{shape_of}
use Rattle.bisim_spec.specs.declared.sides.Sides.TheVariants as sides
use Rattle.bisim_levels.proofs.WrittenSides.{lists_both}
use Rattle.graph_update.specs.PendingChanges.{graph_after}
use Rattle.level_update.proofs.keys.read_both.Goals as goal

pub returns-clause-lists : goal.returns-clause-lists
returns-clause-lists g c =
    lists_both sides.Both (shape_of (graph_after c.args.after.now)) c.args.n c.read_parents.new.list.items c.read_children.new.list.items c.in_ok-read_parents.ensures.parents
    c.in_ok-read_children.ensures.children
