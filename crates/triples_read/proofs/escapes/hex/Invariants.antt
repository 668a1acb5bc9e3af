use Rattle.std.proofs.Common.{drop}
use Rattle.triples_read.proofs.Digits.{HexSoFar}
use Rattle.triples_read.proofs.escapes.hex.Given as goal

abbrev pub invariant-loop-i : goal.invariant-loop-i
invariant-loop-i l = HexSoFar l.count l.i l.n l.bytes (drop l.i l.bytes)
