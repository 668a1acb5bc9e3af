use Rattle.std.proofs.Common.{subst}
use Rattle.graph_steps.specs.Verdicts.{Judges}
use Rattle.graph_steps.proofs.Judged.{judged_new, judged_index, judged_highest}
use Rattle.graph_steps.proofs.judging.judge.Goals as goal

pub returns : goal.returns
returns c =
    let g = c.args.graph.now.graph in
    let limits = c.args.limits.now in
    let j : Judges c.args.change.now g limits c.judge_steps.result = subst (λ s. Judges s g limits c.judge_steps.result) c.steps.ensures c.judge_steps.ensures.judges in
    record {
      judges = j;
      new = judged_new c.args.change.now g limits c.judge_steps.result j;
      highest = judged_highest c.args.change.now g limits c.judge_steps.result j;
      index = judged_index c.args.change.now g limits c.judge_steps.result j;
    }
