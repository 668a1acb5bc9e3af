use Rattle.std.proofs.Common.{◌∙◌}
use Rattle.index_file.proofs.GraphPartLaws.{gave_all}
use Rattle.index_file.proofs.graph_text.push_all.Goals as goal

pub loop-preserved : goal.loop-preserved
loop-preserved c = gave_all _ _ _ _ c.in_ok-next.ensures.given ∙ c.loop.invariant
