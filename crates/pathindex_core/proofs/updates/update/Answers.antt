use Rattle.std.proofs.Common.{◌≡◌, Ok, subst}
use Rattle.graph_steps.specs.Verdicts.{Judges}
use Rattle.graph_steps.specs.declared.changes.Verdict.TheVariants.{New, Same}
use Rattle.pathindex_core.proofs.updates.update.Goals as goal

pub make-requires-clause-new : goal.make-requires-clause-new
make-requires-clause-new g c =
    let ok = c.in-Ok-New.is in
    let new = c.in-Ok-New.field-0-is in
    let e : c.judge.result ≡ Ok New = cc in
    c.judge.ensures.new e

pub nothing_added-requires : goal.nothing_added-requires
nothing_added-requires g c =
    let ok = c.in-Ok-Same.is in
    let same = c.in-Ok-Same.field-0-is in
    let e : c.judge.result ≡ Ok Same = cc in
    let judged = subst (Judges c.args.change.now c.args.graph.now.graph c.args.limits.now) e c.judge.ensures.judges in
    record { same = (c.args.limits.now, judged.1) }
