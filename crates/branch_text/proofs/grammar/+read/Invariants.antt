use Rattle.std.proofs.Common.{◌≡◌, ◌<◌, ◌≤◌, ◌+◌, ◌*◌, length}
use Rattle.branch_spec.specs.Tokens.{test_onto, preds_onto, or_onto, and_onto, chain_onto, EndsAnd, EndsChain, EndsStep}
use Rattle.branch_expr.specs.QueryTrees.{test_of, preds_of, chain_of, cond_of, and_from, and_of, or_from}
use Rattle.branch_text.specs.BranchTokens.{seen}
use Rattle.branch_text.proofs.grammar.+read.Given as goal

abbrev pub decreases-read_step : goal.decreases-read_step
decreases-read_step l = 8 * length l.left.now

abbrev pub decreases-read_hops : goal.decreases-read_hops
decreases-read_hops l = 8 * length l.left.now

abbrev pub decreases-read_rel : goal.decreases-read_rel
decreases-read_rel l = 8 * length l.left.now

abbrev pub decreases-read_group : goal.decreases-read_group
decreases-read_group l = 8 * length l.left.now

abbrev pub decreases-read_not : goal.decreases-read_not
decreases-read_not l = 8 * length l.left.now + 1

abbrev pub decreases-read_parentheses : goal.decreases-read_parentheses
decreases-read_parentheses l = 8 * length l.left.now + 1

abbrev pub decreases-read_steps : goal.decreases-read_steps
decreases-read_steps l = 8 * length l.left.now + 1

abbrev pub decreases-read_unit : goal.decreases-read_unit
decreases-read_unit l = 8 * length l.left.now + 2

abbrev pub decreases-read_cond : goal.decreases-read_cond
decreases-read_cond l = 8 * length l.left.now + 3

abbrev pub decreases-read_and : goal.decreases-read_and
decreases-read_and l = 8 * length l.left.now + 4

abbrev pub decreases-read_or : goal.decreases-read_or
decreases-read_or l = 8 * length l.left.now + 5

abbrev pub decreases-read_pred : goal.decreases-read_pred
decreases-read_pred l = 8 * length l.left.now + 6

abbrev pub invariant-read_step-predicates : goal.invariant-read_step-predicates
invariant-read_step-predicates l = record {
  so_far : seen l.left ≡ test_onto (test_of l.test) (preds_onto (preds_of l.preds.items) (seen l.behind));
  shorter : length l.behind < length l.left;
}

abbrev pub decreases-read_step-predicates : goal.decreases-read_step-predicates
decreases-read_step-predicates l = length l.behind

abbrev pub invariant-read_hops-steps : goal.invariant-read_hops-steps
invariant-read_hops-steps l = record {
  so_far : seen l.left ≡ chain_onto (chain_of l.hops.items) (seen l.behind);
  ends : EndsStep (seen l.behind);
  shorter : length l.behind ≤ length l.left;
}

abbrev pub decreases-read_hops-steps : goal.decreases-read_hops-steps
decreases-read_hops-steps l = length l.behind

abbrev pub invariant-read_and-conditions : goal.invariant-read_and-conditions
invariant-read_and-conditions l = record {
  so_far : seen l.left ≡ and_onto (and_from (cond_of l.first) l.more.items) (seen l.behind);
  ends : EndsChain (seen l.behind);
  shorter : length l.behind < length l.left;
}

abbrev pub decreases-read_and-conditions : goal.decreases-read_and-conditions
decreases-read_and-conditions l = length l.behind

abbrev pub invariant-read_or-alternatives : goal.invariant-read_or-alternatives
invariant-read_or-alternatives l = record {
  so_far : seen l.left ≡ or_onto (or_from (and_of l.first) l.more.items) (seen l.behind);
  ends : EndsAnd (seen l.behind);
  shorter : length l.behind < length l.left;
}

abbrev pub decreases-read_or-alternatives : goal.decreases-read_or-alternatives
decreases-read_or-alternatives l = length l.behind
