use Rattle.std.proofs.Common.{◌++◌, arith}
use Rattle.std.specs.Prelude.{string_bytes}
use Rattle.branch_spec.specs.Spelling.{axis_text}
use Rattle.branch_expr.specs.Axes.{axis_of}
use Rattle.branch_expr.specs.QueryTrees.{step_of, chain_of}
use Rattle.branch_text.specs.BranchTexts.{step_text, chain_text}
use Rattle.branch_text.proofs.Canon.{chain_text_more, written}
use Rattle.branch_text.proofs.writing.write_branch.Goals as goal

pub loop-j-preserved : goal.loop-j-preserved
loop-j-preserved c =
    written (λ hs. chain_text (chain_of hs)) (λ h. axis_text (axis_of h.axis) ++ step_text (step_of h.step)) chain_text_more (string_bytes c.args.out.now)
    (step_text (step_of c.query.inside.first)) (string_bytes c.loop-j.out) (string_bytes c.write_hop.new.out)
    c.query.inside.rest.items c.loop-j.j c.index.result.now (omega arith) c.index.ensures c.loop-j.invariant c.in_ok-write_hop.ensures
