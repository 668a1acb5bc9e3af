use Rattle.std.proofs.Common.{inl, inr, refl}
use Rattle.std.proofs.KnownBytes.{Keeps-refl}
use Rattle.graph_load.specs.Loads.{loaded, syntax, limit}
use Rattle.graph_spec.specs.ProgramLimits.{program_limits}
use Rattle.pathindex_run.proofs.LabelledLoads.{named_labels}
use Rattle.pathindex_run.proofs.RunLemmas.{loads_graph}
use Rattle.pathindex_run.proofs.seeded.run_seeded.Goals as goal

pub run_script-requires-clause-labels : goal.run_script-requires-clause-labels
run_script-requires-clause-labels g c = named_labels program_limits _ _ _ c.in-Ok.ensures.named

pub returns-in-Ok-clause-does : goal.returns-in-Ok-clause-does
returns-in-Ok-clause-does g c = inl (loaded _, loads_graph _ _ _ c.in-Ok.ensures.named, (_, c.in-Ok.ensures.named, c.run_script.ensures.does))

pub returns-in-Err-Syntax-clause-does : goal.returns-in-Err-Syntax-clause-does
returns-in-Err-Syntax-clause-does g c = inl (syntax c.in-Err-Syntax.line, rw c.in-Err-Syntax.field-0-is at c.in-Err-Syntax.ensures.refused, c.show_refusal.ensures.does)

pub returns-in-Err-Memory-clause-does : goal.returns-in-Err-Memory-clause-does
returns-in-Err-Memory-clause-does g c = inr (Keeps-refl (g.K.Sink.written c.args.sink.now), inr refl)

pub returns-in-Err-Limit-clause-does : goal.returns-in-Err-Limit-clause-does
returns-in-Err-Limit-clause-does g c = inl (limit c.in-Err-Limit.line, rw c.in-Err-Limit.field-0-is at c.in-Err-Limit.ensures.refused, c.show_refusal-in-Err-Limit.ensures.does)
