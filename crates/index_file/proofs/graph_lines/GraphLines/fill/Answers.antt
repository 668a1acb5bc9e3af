use Rattle.index_file.proofs.GraphPartLaws.{no_line, gave_twice}
use Rattle.index_file.proofs.graph_lines.GraphLines.fill.Goals as goal

pub loop-self-init : goal.loop-self-init
loop-self-init g c = no_line _ _

pub loop-self-preserved : goal.loop-self-preserved
loop-self-preserved g c = gave_twice _ _ _ _ _ _ c.loop-self.invariant c.in_ok-step.ensures.given

pub returns-then-not-branch-clause-given : goal.returns-then-not-branch-clause-given
returns-then-not-branch-clause-given g c = gave_twice _ _ _ _ _ _ c.loop-self.invariant c.in_ok-step.ensures.given
