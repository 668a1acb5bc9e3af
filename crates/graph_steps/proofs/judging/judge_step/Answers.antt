use Rattle.graph_steps.proofs.judging.judge_step.Goals as goal

pub returns-in-Unlink : goal.returns-in-Unlink
returns-in-Unlink c = rw c.in-Unlink.is (c.judge_unlink.ensures c.args.limits.now)

pub returns-in-Drop : goal.returns-in-Drop
returns-in-Drop c = rw c.in-Drop.is (c.judge_drop.ensures c.args.limits.now)
