use Rattle.std.proofs.Common.{◌∙◌, ap}
use Rattle.branch_spec.specs.Depths.{depth}
use Rattle.branch_text.proofs.Shortness.{uncapped}
use Rattle.branch_text.proofs.branch.Branch.depth.Goals as goal

pub returns : goal.returns
returns c = c.depth.ensures ∙ uncapped c.self.inside.tree c.self.invariant.1 ∙ ap depth c.self.view_is
