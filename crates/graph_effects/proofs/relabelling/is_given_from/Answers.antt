use Rattle.std.proofs.Common.{◌+◌, drop}
use Rattle.std.specs.List.{list_any}
use Rattle.graph_effects.specs.StepEffects.{relabels}
use Rattle.graph_update.proofs.NamedParts.{passed_there}
use Rattle.graph_effects.proofs.Relabelled.{label_next}
use Rattle.graph_effects.proofs.relabelling.is_given_from.Goals as goal

pub loop-i-init : goal.loop-i-init
loop-i-init c = label_next c.args.change.now c.args.n c.args.from c.next_naming-i.result c.next_naming-i.ensures

pub loop-i-preserved : goal.loop-i-preserved
loop-i-preserved c =
    let whole = c.args.change.now in
    let i = c.loop-i.i in
    let next = c.next_naming-i-in-loop-i.result in
    passed_there (list_any (relabels c.args.n) (drop i whole)) c.is_given_by.result (list_any (relabels c.args.n) (drop (i + 1) whole)) (list_any (relabels c.args.n) (drop next whole))
    (list_any (relabels c.args.n) (drop c.args.from whole)) c.is_given_by.ensures c.if-is_given_by.false (label_next whole c.args.n (i + 1) next c.next_naming-i-in-loop-i.ensures) c.loop-i.invariant
