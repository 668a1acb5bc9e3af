use Rattle.std.proofs.Common.{◌∙◌, ap, refl, Err}
use Rattle.graph_load.proofs.batch.take.Goals as goal

pub returns-in-Err-Syntax-clause-puts : goal.returns-in-Err-Syntax-clause-puts
returns-in-Err-Syntax-clause-puts c =
    let neither = c.read_line_with.ensures.syntax (c.in-Err-Syntax.is ∙ ap Err c.in-Err-Syntax.field-0-is) in
    (refl, refl, neither.0, neither.1)
