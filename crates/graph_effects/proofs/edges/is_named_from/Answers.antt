use Rattle.std.proofs.Common.{◌+◌, drop}
use Rattle.std.specs.List.{list_any}
use Rattle.graph_effects.specs.StepEffects.{names_pair}
use Rattle.graph_update.proofs.NamedParts.{passed_there}
use Rattle.graph_effects.proofs.NamedPairs.{begin_next, end_next}
use Rattle.graph_effects.proofs.edges.is_named_from.Goals as goal

pub steps-init : goal.steps-init
steps-init c = record {
  begin = begin_next c.args.change.now c.args.u c.args.v c.args.from c.next_naming-i.result c.next_naming-i.ensures;
  end = end_next c.args.change.now c.args.u c.args.v c.args.from c.next_naming-j.result c.next_naming-j.ensures;
}

pub steps-preserved : goal.steps-preserved
steps-preserved c =
    let whole = c.args.change.now in
    let i = c.steps.i in
    let j = c.steps.j in
    let next_i = c.next_naming-i-in-steps.result in
    let next_j = c.next_naming-j-in-steps.result in
    record {
      begin = passed_there (list_any (names_pair c.args.u c.args.v) (drop i whole)) c.is_named_by.result (list_any (names_pair c.args.u c.args.v) (drop (i + 1) whole))
          (list_any (names_pair c.args.u c.args.v) (drop next_i whole)) (list_any (names_pair c.args.u c.args.v) (drop c.args.from whole)) c.is_named_by.ensures c.if-is_named_by.false
          (begin_next whole c.args.u c.args.v (i + 1) next_i c.next_naming-i-in-steps.ensures) c.steps.invariant.begin;
      end = passed_there (list_any (names_pair c.args.u c.args.v) (drop j whole)) c.is_named_by-in-steps.result (list_any (names_pair c.args.u c.args.v) (drop (j + 1) whole))
          (list_any (names_pair c.args.u c.args.v) (drop next_j whole)) (list_any (names_pair c.args.u c.args.v) (drop c.args.from whole)) c.is_named_by-in-steps.ensures c.if-is_named_by-2.false
          (end_next whole c.args.u c.args.v (j + 1) next_j c.next_naming-j-in-steps.ensures) c.steps.invariant.end;
    }
