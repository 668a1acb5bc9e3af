use Rattle.std.proofs.Common.{◌≡◌, length, true}
use Rattle.triples_read.specs.ByteReaders.{past_tag}
use Rattle.triples_read.proofs.tags.past_tag.Given as goal

abbrev pub invariant-bytes : goal.invariant-bytes
invariant-bytes l = past_tag l.main l.fresh l.rest ≡ past_tag true true l.bytes

abbrev pub decreases-bytes : goal.decreases-bytes
decreases-bytes l = length l.rest
