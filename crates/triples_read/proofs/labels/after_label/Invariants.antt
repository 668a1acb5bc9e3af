use Rattle.std.proofs.Common.{length}
use denote.Text.{Utf8}
use denote.Shadow.{shadow}
use Rattle.triples_read.proofs.LabelEnds.{LabelSoFar}
use Rattle.triples_read.proofs.labels.after_label.Given as goal

abbrev pub invariant-loop-c : goal.invariant-loop-c
invariant-loop-c l = shadow (Utf8 l.tail) × shadow (Utf8 l.rest) × LabelSoFar l.text l.tail l.rest

abbrev pub decreases-loop-c : goal.decreases-loop-c
decreases-loop-c l = length l.rest
