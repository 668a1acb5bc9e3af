use Rattle.std.proofs.Common.{length}
use Rattle.px_base.proofs.WrittenPrefixes.{PutSoFar}
use Rattle.px_base.proofs.streams.put_all.Given as goal

abbrev pub invariant-loop-rest : goal.invariant-loop-rest
invariant-loop-rest g l = PutSoFar l.bytes (g.K.Sink.written l.fn.sink) (g.K.Sink.faults l.fn.sink) l.rest (g.K.Sink.written l.sink) (g.K.Sink.faults l.sink)

abbrev pub decreases-loop-rest : goal.decreases-loop-rest
decreases-loop-rest g l = length l.rest
