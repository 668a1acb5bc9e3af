use Rattle.std.proofs.Common.{◌≡◌, ◌++◌, take}
use Rattle.std.specs.Prelude.{string_bytes}
use Rattle.branch_expr.specs.QueryTrees.{step_of, chain_of}
use Rattle.branch_text.specs.BranchTexts.{step_text, chain_text}
use Rattle.branch_text.proofs.writing.write_branch.Given as goal

abbrev pub invariant-loop-j : goal.invariant-loop-j
invariant-loop-j l = string_bytes l.out ≡ string_bytes l.fn.out ++ (step_text (step_of l.query-inside.first) ++ chain_text (chain_of (take l.j l.query-inside.rest.items)))
