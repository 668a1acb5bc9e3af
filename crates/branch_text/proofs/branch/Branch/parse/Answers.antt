use Rattle.std.proofs.Common.{sym}
use Rattle.branch_text.proofs.BranchRoundTrips.{are_labels, is_written}
use Rattle.branch_text.proofs.OneText.{spells_one}
use Rattle.branch_text.proofs.Shortness.{few_tokens}
use Rattle.branch_text.proofs.branch.Branch.parse.Goals as goal

pub returns-then-is_past-clause-once : goal.returns-then-is_past-clause-once
returns-then-is_past-clause-once c a b h k = spells_one c.args.text.now a b h k

pub invariant_of-result : goal.invariant_of-result
invariant_of-result c = (
  are_labels c.args.text.now c.in-Ok.tree c.in-Ok.ensures.ok,
  few_tokens c.args.limits.now c.args.text.now c.in-Ok.tree (sym c.if-is_past.ensures) c.in-Ok.ensures.ok,
)

pub returns-in-Ok-clause-written : goal.returns-in-Ok-clause-written
returns-in-Ok-clause-written c = is_written c.args.text.now c.in-Ok.tree c.in-Ok.ensures.ok

pub returns-in-Err-Memory-clause-once : goal.returns-in-Err-Memory-clause-once
returns-in-Err-Memory-clause-once c a b h k = spells_one c.args.text.now a b h k

pub returns-in-Ok-clause-only : goal.returns-in-Ok-clause-only
returns-in-Ok-clause-only c other h = spells_one c.args.text.now other c.in-Ok.tree h c.in-Ok.ensures.ok

pub returns-in-Ok-clause-once : goal.returns-in-Ok-clause-once
returns-in-Ok-clause-once c a b h k = spells_one c.args.text.now a b h k
