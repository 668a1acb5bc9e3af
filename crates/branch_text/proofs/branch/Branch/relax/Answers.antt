use Rattle.std.proofs.Common.{sym, subst}
use Rattle.branch_spec.specs.Tokens.{tokens}
use Rattle.branch_text.specs.Parsed.{AreLabels, HasFewTokens}
use Rattle.branch_text.proofs.BranchRoundTrips.{labels_relaxed}
use Rattle.branch_text.proofs.Shortness.{few_relaxed}
use Rattle.branch_text.proofs.branch.Branch.relax.Goals as goal

pub invariant_of-result : goal.invariant_of-result
invariant_of-result c =
    subst (λ q. AreLabels (tokens q) × HasFewTokens q) (sym c.in_ok-tree.ensures)
    (labels_relaxed c.self.inside.tree c.self.invariant.0, few_relaxed c.self.inside.tree c.self.invariant.1)
