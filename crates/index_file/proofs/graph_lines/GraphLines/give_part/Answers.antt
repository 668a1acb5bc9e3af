use Rattle.std.proofs.Common.{arith}
use Rattle.index_file.proofs.GraphPartLaws.{gave_some}
use Rattle.index_file.proofs.graph_lines.GraphLines.give_part.Goals as goal

pub returns-clause-fewer : goal.returns-clause-fewer
returns-clause-fewer g c ok =
    let full = c.in_ok-more.ensures.full ok in
    gave_some _ _ _ _ c.in_ok-more.ensures.given (omega (arith, full))
