use Rattle.std.proofs.Common.{sym, subst}
use Rattle.std.proofs.lemmas.Result.{IfOk-weaker}
use Rattle.graph_spec.specs.declared.limits.Limits.{Limits}
use Rattle.script_read.specs.ReadLines.{ReadsCommand}
use Rattle.script_interpreter.specs.EngineStates.{state_of}
use Rattle.script_interpreter.proofs.KeptGroups.{comes_inside, comes_outside, has_none}
use Rattle.script_interpreter.proofs.interpreter.take.Goals as goal

pub take_outside-requires-clause-none : goal.take_outside-requires-clause-none
take_outside-requires-clause-none g c = has_none c.args.group.now (sym c.if-is_some.ensures)

pub returns-then-is_some-clause-ok : goal.returns-then-is_some-clause-ok
returns-then-is_some-clause-ok g c =
    let reads = subst {A = Limits} (λ l. ReadsCommand l c.args.line.now c.read-read.result) c.program.ensures c.read-read.ensures.reads in
    IfOk-weaker c.take_inside.result _ _
    (λ outcome h. comes_inside (state_of g.B.PathIndex.meaning c.args.engine.now c.args.names.now.names) c.args.number c.args.line.now c.args.group.now c.args.output.now outcome
    (state_of g.B.PathIndex.meaning c.take_inside.new.engine c.args.names.now.names) c.take_inside.new.group c.take_inside.new.output (sym c.if-is_some.ensures) (λ group k. h c.args.number c.args.line.now group reads k))
    (c.take_inside.ensures.ok c.args.names.now.names)

pub returns-else-is_some-clause-ok : goal.returns-else-is_some-clause-ok
returns-else-is_some-clause-ok g c =
    let reads = subst {A = Limits} (λ l. ReadsCommand l c.args.line.now c.read-read.result) c.program.ensures c.read-read.ensures.reads in
    IfOk-weaker c.take_outside.result _ _
    (λ outcome h. comes_outside (state_of g.B.PathIndex.meaning c.args.engine.now c.args.names.now.names) c.args.number c.args.line.now c.args.group.now c.args.output.now outcome
    (state_of g.B.PathIndex.meaning c.take_outside.new.engine c.take_outside.new.names.names) c.take_outside.new.group c.take_outside.new.output (sym c.if-is_some.ensures) (h c.args.line.now reads))
    c.take_outside.ensures.ok
