use Rattle.std.proofs.Common.{ap, length, Err, ◌∙◌}
use Rattle.graph_spec.specs.Graphs.{Graph}
use Rattle.script_interpreter.proofs.EngineCalls.{open_made, open_same, few_numbers, made_changed, refused_changed, no_refusal}
use Rattle.script_interpreter.proofs.changes.make.Goals as goal

pub push_applied-requires : goal.push_applied-requires
push_applied-requires g c = record {
  few =
      few_numbers c.args.change _ _ c.in-Ok.applied c.created-known.result c.created-known-in-Ok.result c.requires.ready c.in-Ok.ensures.made (λ r e. no_refusal _ _ (c.in-Ok.ensures.refused r).1 e)
      (c.created-known.ensures.count ∙ ap (λ (x : Graph). length x.allocated) c.graph.ensures) c.created-known.ensures.few
      (c.created-known-in-Ok.ensures.count ∙ ap (λ (x : Graph). length x.allocated) c.graph-in-Ok.ensures) c.created-known-in-Ok.ensures.few;
}

pub returns-in_err-push_applied-in-Ok-clause-ready : goal.returns-in_err-push_applied-in-Ok-clause-ready
returns-in_err-push_applied-in-Ok-clause-ready g c = open_made c.args.change _ _ c.in-Ok.applied c.requires.ready c.update.ensures.sound c.in-Ok.ensures.made

pub returns-in_ok-push_applied-in-Ok-clause-ready : goal.returns-in_ok-push_applied-in-Ok-clause-ready
returns-in_ok-push_applied-in-Ok-clause-ready g c = open_made c.args.change _ _ c.in-Ok.applied c.requires.ready c.update.ensures.sound c.in-Ok.ensures.made

pub returns-in_ok-push_applied-in-Ok-clause-ok : goal.returns-in_ok-push_applied-in-Ok-clause-ok
returns-in_ok-push_applied-in-Ok-clause-ok g c n =
    made_changed n c.args.scope c.args.change _ _ c.in-Ok.applied _ _ c.requires.ready c.in-Ok.ensures.made (λ r e. no_refusal _ _ (c.in-Ok.ensures.refused r).1 e) c.in_ok-push_applied-in-Ok.ensures.ok

pub returns-in_err-refuse-in-Err-Refused-clause-ready : goal.returns-in_err-refuse-in-Err-Refused-clause-ready
returns-in_err-refuse-in-Err-Refused-clause-ready g c = open_same _ _ c.in-Err-Refused.ensures.err c.requires.ready

pub returns-in_ok-refuse-in-Err-Refused-clause-ready : goal.returns-in_ok-refuse-in-Err-Refused-clause-ready
returns-in_ok-refuse-in-Err-Refused-clause-ready g c = open_same _ _ c.in-Err-Refused.ensures.err c.requires.ready

pub returns-in-Err-Memory-clause-ready : goal.returns-in-Err-Memory-clause-ready
returns-in-Err-Memory-clause-ready g c = open_same _ _ c.in-Err-Memory.ensures.err c.requires.ready

pub returns-in_ok-refuse-in-Err-Refused-clause-ok : goal.returns-in_ok-refuse-in-Err-Refused-clause-ok
returns-in_ok-refuse-in-Err-Refused-clause-ok g c n =
    let refused = (c.in-Err-Refused.ensures.refused c.in-Err-Refused.refusal).0 (ap Err c.in-Err-Refused.field-0-is) in
    refused_changed n c.args.scope c.args.change _ _ c.in-Err-Refused.refusal _ _ c.requires.ready c.in-Err-Refused.ensures.err refused
    (rw c.in-Err-Refused.field-0-is at c.in_ok-refuse-in-Err-Refused.ensures.ok)
