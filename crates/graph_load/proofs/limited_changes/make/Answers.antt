use Rattle.std.proofs.Common.{◌≡◌, Ok}
use Rattle.graph_steps.specs.declared.changes.Verdict.TheVariants.{New}
use Rattle.graph_load.proofs.limited_changes.make.Goals as goal

pub stage-requires : goal.stage-requires
stage-requires c =
    let ok = c.in-Ok-New.is in
    let new = c.in-Ok-New.field-0-is in
    let e : c.judge.result ≡ Ok New = cc in
    record { new = c.judge.ensures.new e }
